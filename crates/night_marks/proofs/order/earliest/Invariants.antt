use Rattle.std.proofs.Common.{◌≡◌, Some, drop, map}
use Rattle.std.specs.List.{fold}
use Rattle.night_marks.specs.Order.{earlier, earliest}
use Rattle.night_marks.proofs.order.earliest.Given as goal

abbrev pub invariant-loop-i : goal.invariant-loop-i
invariant-loop-i l = earliest (map (λ n. n.now) l.nights) ≡ Some (fold earlier l.found (map (λ n. n.now) (drop l.i l.nights)))
