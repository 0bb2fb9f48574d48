use Rattle.std.proofs.Common.{◌≡◌, ◌<◌, ◌+◌, ℕ, Some, slice_get}
use Rattle.number_register.proofs.book.precedes.Given as goal

-- no key after the position so far
abbrev pub invariant-loop-step : goal.invariant-loop-step
invariant-loop-step g l = (i : ℕ) (a : g.row.K.Denot) → l.at < i → i < l.at + l.step → slice_get l.keys i ≡ Some (Some a) → ⊥
