-- Own: books by number, of keys by position.
use Rattle.std.specs.Prelude.{ℕ, List, [], Option, get_or}

-- a book; one that isn't there has no position
abbrev pub book_at : {K : Type 0} → List (List (Option K)) → ℕ → List (Option K)
book_at books n = get_or books n []
