use Rattle.std.proofs.Common.{◌≡◌, map, take}
use Rattle.kept_files.specs.Taken.{interchange_in}
use Rattle.kept_files.proofs.taken.taken_of.Given as goal

abbrev pub invariant-loop-i : goal.invariant-loop-i
invariant-loop-i l = l.list.items ≡ map (λ key. interchange_in key.now) (take l.i l.keys.items)
