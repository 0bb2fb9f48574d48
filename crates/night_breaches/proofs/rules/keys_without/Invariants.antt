use Rattle.std.proofs.Common.{◌≡◌, filter, map, not, take}
use Rattle.std.specs.Prelude.{is_some}
use Rattle.night_breaches.specs.Known.{night_in}
use Rattle.night_breaches.proofs.rules.keys_without.Given as goal

abbrev pub invariant-loop-i : goal.invariant-loop-i
invariant-loop-i l = map (λ key. key.now) l.fresh.items ≡ filter (λ key. not (is_some (night_in l.again key))) (take l.i l.keys)
