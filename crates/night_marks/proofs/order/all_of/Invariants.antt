use Rattle.std.proofs.Common.{◌≡◌, map, take}
use Rattle.night_marks.proofs.order.all_of.Given as goal

abbrev pub invariant-loop-i : goal.invariant-loop-i
invariant-loop-i l = map (λ n. n.now) l.all.items ≡ take l.i l.nights
