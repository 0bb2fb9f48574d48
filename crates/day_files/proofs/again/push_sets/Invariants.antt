use Rattle.std.proofs.Common.{◌≡◌, ◌++◌, map, take}
use Rattle.day_files.specs.Again.{set_in}
use Rattle.day_files.proofs.again.push_sets.Given as goal

abbrev pub invariant-loop-i : goal.invariant-loop-i
invariant-loop-i l = l.sets.items ≡ l.fn.sets.items ++ map set_in (take l.i l.keys)
