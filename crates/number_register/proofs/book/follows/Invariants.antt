use Rattle.std.proofs.Common.{◌≡◌, ◌<◌, ◌≤◌, ◌+◌, ℕ, Some, slice_get}
use Rattle.number_register.proofs.book.follows.Given as goal

-- no key before the position so far
abbrev pub invariant-loop-step : goal.invariant-loop-step
invariant-loop-step g l = (i : ℕ) (a : g.row.K.Denot) → i < l.at → l.at ≤ i + l.step → slice_get l.keys i ≡ Some (Some a) → ⊥
