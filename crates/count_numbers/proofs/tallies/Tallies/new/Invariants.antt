use Rattle.std.proofs.Common.{◌≡◌, ℕ, [], map}
use Rattle.std.specs.List.{range_with_len}
use Rattle.count_numbers.specs.Tallies.{entries_for}
use Rattle.count_numbers.specs.Tally.{tally_of}
use Rattle.count_numbers.proofs.tallies.Tallies.new.Given as goal

abbrev pub invariant-loop-place : goal.invariant-loop-place
invariant-loop-place l = l.list.items ≡ map (λ (place : ℕ). tally_of (entries_for place [])) (range_with_len 0 l._place)
