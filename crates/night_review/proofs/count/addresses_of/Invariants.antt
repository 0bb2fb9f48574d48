use Rattle.std.proofs.Common.{◌≡◌, map, take}
use Rattle.night_review.specs.Count.{addresses_of}
use Rattle.night_review.proofs.count.addresses_of.Given as goal

abbrev pub invariant-loop-i : goal.invariant-loop-i
invariant-loop-i l = map (λ a. a.now) l.list.items ≡ addresses_of (take l.i l.nights)
