-- Own: what contracts see of a desk of jobs and of its seats, and that a list has each job once.
use Rattle.std.specs.Prelude.{◌≡◌, ℕ, ◌+◌, List, [], ◌∷◌, ◌==◌, if◌then◌else◌, ltb}
use Rattle.atomic_table.specs.Seated.{TableId}

-- which desk it is, how many jobs it has, and how many seats it was opened for
pub record DeskName : Type 0 where
  pub table : TableId
  pub n : ℕ
  pub seats : ℕ

-- a seat: the jobs that it got, in order, how many of the desk's seats it is, and how many of these were reported that none is left
pub record Holding : Type 0 where
  pub desk : DeskName
  pub got : List ℕ
  pub weight : ℕ
  pub ended : ℕ

-- how often x is in the list
abbrev pub times : ℕ → List ℕ → ℕ
times x [] = 0
times x (y ∷ ys) = (if x == y then 1 else 0) + times x ys

-- what appears once below n, and never from there on
abbrev pub once_below : ℕ → ℕ → ℕ
once_below x n = if ltb x n then 1 else 0

-- each number below n is in the list once, and no other
abbrev pub EachOnce : ℕ → List ℕ → Type 0
EachOnce n got = (x : ℕ) → times x got ≡ once_below x n
