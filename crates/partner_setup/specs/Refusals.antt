-- The setup (own): the numbers by which its refusals are named.
use Rattle.std.specs.Prelude.{ℕ}
use Rattle.partner_setup.specs.declared.setup_fault.SetupFault.{SetupFault}
use Rattle.partner_setup.specs.declared.setup_fault.SetupFault.TheVariants as setup

abbrev pub setup_number : SetupFault → ℕ
setup_number (setup.SamePartner place) = 1
setup_number (setup.BadDelimiters place) = 2
setup_number (setup.BadId owner) = 3
setup_number (setup.BadGuides owner) = 4
setup_number (setup.BadRoute place) = 5
setup_number (setup.BadCounter place) = 6
setup_number (setup.BadCap place) = 7
setup_number setup.NoMemory = 8
