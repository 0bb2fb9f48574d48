use Rattle.std.proofs.Common.{◌≡◌, drop, map}
use Rattle.night_marks.specs.Order.{naming}
use Rattle.night_marks.proofs.order.naming.Given as goal

abbrev pub invariant-loop-i : goal.invariant-loop-i
invariant-loop-i l = naming l.last (map (λ n. n.now) (drop l.i l.nights)) ≡ naming l.last (map (λ n. n.now) l.nights)
