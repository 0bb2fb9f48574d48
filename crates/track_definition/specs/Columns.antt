-- own: rows with few fields in the table that says where each set of a night is, and words with spaces.
use Rattle.std.specs.Prelude.{ℕ, List, [], ◌∷◌, ◌++◌}
use Rattle.std.specs.List.{flat_map}

-- words with spaces between them
abbrev pub spaced_words : List (List ℕ) → List ℕ
spaced_words [] = []
spaced_words (word ∷ words) = word ++ flat_map (λ w. 32 ∷ w) words

-- the fields of a group and of a set, where there are none
abbrev pub no_set_cells : List (List ℕ)
no_set_cells = [] ∷ [] ∷ [] ∷ [] ∷ [] ∷ [] ∷ [] ∷ [] ∷ [] ∷ [] ∷ [] ∷ [] ∷ []

-- the outcome of a set that has no receiver
abbrev pub plain_end : (outcome : List ℕ) → List (List ℕ)
plain_end outcome = outcome ∷ [] ∷ [] ∷ [] ∷ [] ∷ [] ∷ [] ∷ []
