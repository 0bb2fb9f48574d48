-- The guides of a setup are accepted.
use Rattle.std.specs.List.{All}
use Rattle.guide_tree.specs.Words.{IsAccepted}
use Rattle.partner_setup.specs.Setup.{SetupValue}

-- each guide is without fault and has numbered slots
abbrev pub AreGuidesAccepted : SetupValue → Type 0
AreGuidesAccepted setup = All IsAccepted setup.guides
