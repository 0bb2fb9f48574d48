use Rattle.std.proofs.Common.{◌≡◌, map, take}
use Rattle.night_marks.specs.Order.{others}
use Rattle.night_marks.proofs.order.others.Given as goal

abbrev pub invariant-loop-i : goal.invariant-loop-i
invariant-loop-i l = map (λ n. n.now) l.left.items ≡ others l.name (map (λ n. n.now) (take l.i l.nights))
