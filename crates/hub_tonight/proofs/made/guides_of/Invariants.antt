use Rattle.std.proofs.Common.{take}
use Rattle.hub_tonight.specs.Files.{AreGuides}
use Rattle.hub_tonight.proofs.made.guides_of.Given as goal

abbrev pub invariant-loop-i : goal.invariant-loop-i
invariant-loop-i l = AreGuides (take l.i l.files) l.guides.items
