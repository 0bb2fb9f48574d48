use Rattle.std.proofs.Common.{take}
use Rattle.std.specs.List.{AllZip}
use Rattle.hub_folder.specs.Papers.{IsGuideAt}
use Rattle.hub_folder.proofs.papers.read_guides.Given as goal

abbrev pub invariant-loop-i : goal.invariant-loop-i
invariant-loop-i g l = AllZip (IsGuideAt l.folder) (take l.i l.names) l.guides.items
