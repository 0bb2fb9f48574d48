use Rattle.std.proofs.Common.{◌≡◌, ◌-◌, ◌++◌, [], length, map}
use Rattle.night_marks.specs.Order.{in_order}
use Rattle.night_marks.proofs.order.in_order.Given as goal

abbrev pub invariant-loop-i : goal.invariant-loop-i
invariant-loop-i l = map (λ n. n.now) l.order.items
    ++ in_order (length l.nights - l.i) l.last (map (λ n. n.now) l.left.items) ≡ in_order (length l.nights) [] l.nights
