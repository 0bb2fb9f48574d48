use Rattle.std.proofs.Common.{◌≡◌, ◌++◌, [], take, drop}
use Rattle.std.specs.Prelude.{reverse}
use Rattle.night_breaches.specs.Breaches.{breaches_after}
use Rattle.night_breaches.specs.Known.{Knows}
use Rattle.night_breaches.proofs.checked.breaches.Given as goal

abbrev pub invariant-loop-i : goal.invariant-loop-i
invariant-loop-i l = record {
  found : l.found.items ++ breaches_after l.limit (reverse (take l.i l.nights)) (drop l.i l.nights) ≡ breaches_after l.limit [] l.nights;
  knows : Knows l.known (reverse (take l.i l.nights));
}
