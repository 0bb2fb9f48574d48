use Rattle.std.proofs.Common.{◌≡◌, ℕ, List, take}
use Rattle.std.specs.Prelude.{reverse}
use Rattle.night_breaches.specs.Breaches.{night_with}
use Rattle.night_breaches.specs.Known.{night_in}
use Rattle.night_breaches.proofs.deliveries.deliveries_of.Given as goal

abbrev pub invariant-loop-i : goal.invariant-loop-i
invariant-loop-i l = (key : List ℕ) → night_in l.found key ≡ night_with key (reverse (take l.i l.nights))
