use Rattle.std.proofs.Common.{take}
use Rattle.std.specs.List.{AllZip}
use Rattle.hub_adopt.specs.Given.{IsOutFile}
use Rattle.hub_adopt.proofs.given.out_files.Given as goal

abbrev pub invariant-loop-i : goal.invariant-loop-i
invariant-loop-i g l = AllZip (IsOutFile l.folder) (take l.i l.names) l.files.items
