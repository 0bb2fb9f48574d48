use Rattle.std.proofs.Common.{◌≡◌, map, take}
use Rattle.kept_files.specs.Sums.{sum_of}
use Rattle.kept_files.proofs.sums.sums_of.Given as goal

abbrev pub invariant-loop-i : goal.invariant-loop-i
invariant-loop-i l = l.list.items ≡ map sum_of (take l.i l.files)
