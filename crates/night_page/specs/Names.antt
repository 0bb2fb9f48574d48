-- Texts in the order of bytes, each once (own).
use Rattle.std.specs.Prelude.{◌↔◌, ℕ, Bool, true, false, List, [], ◌∷◌, map}
use Rattle.std.specs.List.{Contains}
use Rattle.hub_kinds.specs.Rising.{IsRisingBy}
use Rattle.night_page.specs.declared.name.Name.{Name}

abbrev pub text_of : Name → List ℕ
text_of name = name.text

abbrev pub texts_of : List Name → List (List ℕ)
texts_of names = map text_of names

abbrev pub is_filled : {X : Type 0} → List X → Bool
is_filled [] = false
is_filled (x ∷ xs) = true

-- just these texts
pub record AreNames (texts : List (List ℕ)) (names : List Name) : Type 0 where
  pub same : (text : List ℕ) → Contains (texts_of names) text ↔ Contains texts text
  pub rising : IsRisingBy text_of names
