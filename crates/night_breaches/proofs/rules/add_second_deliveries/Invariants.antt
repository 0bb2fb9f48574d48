use Rattle.std.proofs.Common.{◌≡◌, ◌++◌, map, take}
use Rattle.night_breaches.specs.Breaches.{second_deliveries}
use Rattle.night_breaches.specs.Known.{night_in}
use Rattle.night_breaches.proofs.rules.add_second_deliveries.Given as goal

abbrev pub invariant-loop-i : goal.invariant-loop-i
invariant-loop-i l =
    l.found.items ≡ l.fn.found.items ++ second_deliveries (night_in l.nights) l.night (map (λ key. key.now) (take l.i l.keys))
