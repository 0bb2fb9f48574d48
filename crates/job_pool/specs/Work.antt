-- Own: the numbers of jobs in their order.
use Rattle.std.specs.Prelude.{◌≡◌, ℕ, suc, zero, ◌+◌, List, [], ◌∷◌, Some, slice_get}

-- that many numbers, from a on
abbrev pub numbers_from : (a count : ℕ) → List ℕ
numbers_from a zero = []
numbers_from a (suc n) = a ∷ numbers_from (a + 1) n

-- the answer at place k is the one to job k
abbrev pub IsHome : List ℕ → ℕ → Type 0
IsHome numbers k = slice_get numbers k ≡ Some k

-- no answer that was at its place is moved from it
abbrev pub StayHome : (before after : List ℕ) → Type 0
StayHome before after = (k : ℕ) → IsHome before k → IsHome after k
