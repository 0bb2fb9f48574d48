use Rattle.std.proofs.Common.{take}
use Rattle.std.specs.List.{AllZip}
use Rattle.night_folder.specs.Nights.{IsSumOf}
use Rattle.night_folder.proofs.sums.sums_at.Given as goal

abbrev pub invariant-loop-i : goal.invariant-loop-i
invariant-loop-i g l = AllZip (IsSumOf l.folder) (take l.i l.names) l.found.items
