use Rattle.std.proofs.Common.{◌≡◌, ◌*◌, map}
use Rattle.std.specs.List.{range_with_len}
use Rattle.cut_plan.proofs.places.multiples.Given as goal

abbrev pub invariant-loop-k : goal.invariant-loop-k
invariant-loop-k l = l.places.items ≡ map (λ k. l.n * k) (range_with_len 1 l.k)
