-- X12.6, segment (own): the places of a text in a list of texts, and an ordered map that has them for each text.
use Rattle.std.specs.Prelude.{ℕ, ◌+◌, ◌≡◌, List, [], ◌∷◌, Option, Some, None, cond, Vec}
use Rattle.std.specs.Str.{bytes_eq}
use Rattle.std.specs.BTreeMap.{BTreeMap, get}
use Rattle.std.specs.declared.alloc.Global.{Global}
use Rattle.hub_kinds.specs.Words.{by_text}
use denote.Ref.{Bor}

-- the first text's place being k
abbrev pub places_of : List ℕ → (k : ℕ) → List (List ℕ) → List ℕ
places_of text k [] = []
places_of text k (t ∷ texts) = cond (bytes_eq t text) (k ∷ places_of text (k + 1) texts) (places_of text (k + 1) texts)

-- each entry is a place
abbrev pub kept_places : Option (Vec ℕ Global) → List ℕ
kept_places None = []
kept_places (Some all) = all.items

-- the map has the places of each text
abbrev pub Knows : BTreeMap (Bor (List ℕ)) (Vec ℕ Global) → List (List ℕ) → Type 0
Knows m texts = (q : Bor (List ℕ)) → kept_places (get by_text m q) ≡ places_of q.now 0 texts
