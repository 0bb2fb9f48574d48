-- Own: whether a key appears twice in a list.
use Rattle.std.specs.Prelude.{ℕ, Bool, false, ◌||◌, List, [], ◌∷◌}
use Rattle.std.specs.List.{list_any}
use Rattle.std.specs.Ordering.{eq_by_cmp}
use Rattle.hub_kinds.specs.Rising.{order_by}

-- two values have one key
abbrev pub has_same_key : {A : Type 0} → (A → List ℕ) → A → A → Bool
has_same_key key x y = eq_by_cmp (order_by key) x y

-- some value's key is that of one after it
abbrev pub has_twice : {A : Type 0} → (A → List ℕ) → List A → Bool
has_twice key [] = false
has_twice key (x ∷ xs) = list_any (has_same_key key x) xs || has_twice key xs
