-- Own: names, and the places at which they are.
use Rattle.std.specs.Prelude.{ℕ, ◌+◌, List, [], ◌∷◌, Option, Some, None, slice_get, if◌then◌else◌}
use Rattle.std.specs.Str.{bytes_eq}

-- the first place of a text among some, of which the first has this place
abbrev pub place_from : ℕ → List (List ℕ) → (text : List ℕ) → Option ℕ
place_from n [] text = None
place_from n (t ∷ ts) text = if bytes_eq t text then Some n else place_from (n + 1) ts text

abbrev pub place_of : List (List ℕ) → (text : List ℕ) → Option ℕ
place_of texts text = place_from 0 texts text

-- the places of texts, those that are there
abbrev pub and_some : {A : Type 0} → Option A → List A → List A
and_some None xs = xs
and_some (Some x) xs = x ∷ xs

abbrev pub places_of_texts : List (List ℕ) → List (List ℕ) → List ℕ
places_of_texts texts [] = []
places_of_texts texts (name ∷ names) = and_some (place_of texts name) (places_of_texts texts names)

-- what is at places
abbrev pub those_at : {A : Type 0} → List A → (places : List ℕ) → List A
those_at xs [] = []
those_at xs (place ∷ places) = and_some (slice_get xs place) (those_at xs places)
