-- What the index keeps of an interchange is what the definition has of it.
use Rattle.std.specs.Prelude.{◌≡◌, ℕ, ◌+◌, List, [], ◌∷◌, length, Option, Some, None, option_map}
use Rattle.x12_bytes.specs.Header.{header_delims}
use Rattle.env_index.specs.Words as then
use Rattle.env_index.specs.declared.entry.SetEnvelope.{SetEnvelope}
use Rattle.night_definition.specs.Segments.{Segment}
use Rattle.night_definition.specs.Envelopes.{Set, Group, Read}
use Rattle.night_definition.specs.Interchanges.{Interchange}
use Rattle.night_equal_text.specs.Seen.{seen}

abbrev pub one_if_there : Option Segment → ℕ
one_if_there None = 0
one_if_there (Some s) = 1

-- a set: its ST and SE, and how many segments it has
pub record IsSetKept (s : Set) (e : SetEnvelope) : Type 0 where
  pub header : s.header ≡ seen e.header
  pub segments : e.segments ≡ length s.inner + one_if_there s.trailer + 1
  pub trailer : s.trailer ≡ option_map seen e.trailer

abbrev pub AreSetsKept : List Set → List SetEnvelope → Type 0
AreSetsKept [] [] = Unit {0}
AreSetsKept [] (e ∷ es) = ⊥
AreSetsKept (s ∷ ss) [] = ⊥
AreSetsKept (s ∷ ss) (e ∷ es) = IsSetKept s e × AreSetsKept ss es

-- a group: its GS and GE, and its sets
pub record IsGroupKept (g : Group) (e : then.GroupEntry) : Type 0 where
  pub header : g.header ≡ seen e.header
  pub sets : AreSetsKept g.sets e.sets
  pub trailer : g.trailer ≡ option_map seen e.trailer

abbrev pub AreGroupsKept : List Group → List then.GroupEntry → Type 0
AreGroupsKept [] [] = Unit {0}
AreGroupsKept [] (e ∷ es) = ⊥
AreGroupsKept (g ∷ gs) [] = ⊥
AreGroupsKept (g ∷ gs) (e ∷ es) = IsGroupKept g e × AreGroupsKept gs es

pub record IsContentKept (r : Read) (s : then.Summary) : Type 0 where
  pub groups : AreGroupsKept r.groups s.groups
  pub ta1s : r.ta1s ≡ s.ta1s
  pub misplaced : r.misplaced ≡ s.misplaced
  pub iea : r.iea ≡ option_map seen s.trailer

-- an interchange: its header, where it starts and ends, its delimiters and its envelopes
pub record IsKept (x : Interchange) (e : then.InterchangeEntry) : Type 0 where
  pub header : x.header ≡ e.header
  pub delims : x.delims ≡ header_delims e.header
  pub start : x.start ≡ e.start
  pub end : x.end ≡ e.end
  pub content : IsContentKept x.content e.content
