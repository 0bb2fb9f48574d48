use Rattle.std.proofs.Common.{◌≡◌, drop}
use Rattle.std.specs.List.{list_any}
use Rattle.partner_setup.specs.Setup.{is_for_version}
use Rattle.partner_setup.specs.Names.{those_at}
use Rattle.partner_setup.proofs.lookup.any_for_version.Given as goal

abbrev pub invariant-loop-place : goal.invariant-loop-place
invariant-loop-place l =
    list_any (is_for_version l.group l.version) (those_at l.guides (drop l.place-index l.places))
    ≡ list_any (is_for_version l.group l.version) (those_at l.guides l.places)
