use Rattle.std.proofs.Common.{◌≡◌, ◌++◌, map, take}
use Rattle.night_review.specs.Count.{addresses_in}
use Rattle.night_review.proofs.count.add_addresses.Given as goal

abbrev pub invariant-loop-i : goal.invariant-loop-i
invariant-loop-i l = map (λ a. a.now) l.list.items ≡ map (λ a. a.now) l.fn.list.items ++ addresses_in (take l.i l.rows)
