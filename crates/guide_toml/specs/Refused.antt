-- The guide file (own): a refusal of a table, and the number of the node that the table writes.
use Rattle.std.specs.Prelude.{ℕ, ◌+◌, min, Result, Ok, Err}
use Rattle.toml_keys.specs.Refusals.{Refusal}
use Rattle.toml_keys.specs.declared.values.TheConstants.{GREATEST_NUMBER}

-- the number of the node, as the guide counts its slots, or 0 for what is in none; and what is wrong
abbrev pub Refused : Type 0
Refused = ℕ × Refusal

infixl 10 ◌⊳◌
abbrev pub ◌⊳◌ : {A B : Type 0} → Result A Refused → (A → Result B Refused) → Result B Refused
(Ok x) ⊳ f = f x
(Err e) ⊳ f = Err e

-- what is read of a node's own table
abbrev pub at_slot : {A : Type 0} → (slot : ℕ) → Result A Refusal → Result A Refused
at_slot slot (Ok x) = Ok x
at_slot slot (Err r) = Err (slot, r)

-- the number after that many nodes, as far as 32 bits count
abbrev pub number_after : (first count : ℕ) → ℕ
number_after first count = min (first + count) GREATEST_NUMBER
