-- Bytes that were written are taken back (own).
use Rattle.std.specs.Prelude.{ℕ, ◌≡◌, ◌-◌, ⊤, List, length, take, Option, Some, None}

-- known bytes lose the last this many
abbrev pub TakesBack : (old new : Option (List ℕ)) (count : ℕ) → Type 0
TakesBack None new count = ⊤
TakesBack (Some xs) None count = ⊥
TakesBack (Some xs) (Some ys) count = ys ≡ take (length xs - count) xs
