-- The sets of a text are the parts in the spans of its index.
use Rattle.std.specs.Prelude.{◌≡◌, ℕ, List, [], ◌∷◌, map, option_map}
use Rattle.x12_bytes.specs.declared.delims.Delims.{Delims}
use Rattle.env_index.specs.Words as then
use Rattle.env_index.specs.declared.entry.SetEnvelope.{SetEnvelope}
use Rattle.set_check.specs.SetParts.{SetParts, set_parts}
use Rattle.night_definition.specs.Envelopes.{Set, Group}
use Rattle.night_definition.specs.Interchanges.{Interchange}
use Rattle.night_equal_text.specs.Seen.{seen}

-- a set: its ST, the elements of the segments after it, and its SE
pub record IsSetOf (s : Set) (p : SetParts) : Type 0 where
  pub header : s.header ≡ seen p.header
  pub body : map (λ x. x.elements) s.inner ≡ p.body
  pub trailer : s.trailer ≡ option_map seen p.trailer

abbrev pub AreSetsIn : (text : List ℕ) → Delims → List Set → List SetEnvelope → Type 0
AreSetsIn text d [] [] = Unit {0}
AreSetsIn text d [] (e ∷ es) = ⊥
AreSetsIn text d (s ∷ ss) [] = ⊥
AreSetsIn text d (s ∷ ss) (e ∷ es) = IsSetOf s (set_parts text (then.span_of d e)) × AreSetsIn text d ss es

abbrev pub AreGroupsIn : (text : List ℕ) → Delims → List Group → List then.GroupEntry → Type 0
AreGroupsIn text d [] [] = Unit {0}
AreGroupsIn text d [] (e ∷ es) = ⊥
AreGroupsIn text d (g ∷ gs) [] = ⊥
AreGroupsIn text d (g ∷ gs) (e ∷ es) = AreSetsIn text d g.sets e.sets × AreGroupsIn text d gs es

abbrev pub AreInterchangesIn : (text : List ℕ) → List Interchange → List then.IndexEntry → Type 0
AreInterchangesIn text [] [] = Unit {0}
AreInterchangesIn text [] (e ∷ es) = ⊥
AreInterchangesIn text (x ∷ xs) [] = ⊥
AreInterchangesIn text (x ∷ xs) (e ∷ es) =
    AreGroupsIn text x.delims x.content.groups e.interchange.content.groups × AreInterchangesIn text xs es
