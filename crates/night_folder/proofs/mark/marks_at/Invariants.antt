use Rattle.std.proofs.Common.{take}
use Rattle.std.specs.List.{AllZip}
use Rattle.night_folder.specs.Marks.{IsFound}
use Rattle.night_folder.proofs.mark.marks_at.Given as goal

abbrev pub invariant-loop-i : goal.invariant-loop-i
invariant-loop-i g l = AllZip (IsFound l.nights) (take l.i l.names) l.found.items
