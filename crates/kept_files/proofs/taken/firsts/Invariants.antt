use Rattle.std.proofs.Common.{◌≡◌, map, take}
use Rattle.kept_files.proofs.taken.firsts.Given as goal

abbrev pub invariant-loop-i : goal.invariant-loop-i
invariant-loop-i l = map (λ key. key.now) l.keys.items ≡ take l.i l.delivered
