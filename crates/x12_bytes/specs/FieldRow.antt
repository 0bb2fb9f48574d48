-- X12.5, interchange control header (ISA): bytes of its fields, and some of its fields in a row (private: no public clause cites it).
use Rattle.std.specs.Prelude.{ℕ, ◌+◌, ◌≤◌, ◌<◌, ◌==◌, ◌&&◌, Bool, not, List}
use Rattle.x12_bytes.specs.Header.{IsFieldAt}

-- a byte that may be in a field
abbrev pub is_free : ℕ → ℕ → ℕ → Bool
is_free element terminator b = not (b == element) && not (b == terminator)

-- that many fields from field k on are as they have to
abbrev pub HasRow : List ℕ → ℕ → ℕ → Type 0
HasRow header k many = (n : ℕ) → k ≤ n → n < k + many → IsFieldAt header n
