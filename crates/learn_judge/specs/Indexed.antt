-- Sets as the index has them: that a guide takes them, and that there is one that is asked for. Private.
use Rattle.std.specs.Prelude.{◌≡◌, ℕ, Bool, true, IsTrue, List, Option, Some, None, bytes_eq}
use Rattle.std.specs.Option.{option_map_or}
use Rattle.std.specs.List.{All, Any}
use Rattle.x12_bytes.specs.Header.{header_delims}
use Rattle.x12_bytes.specs.declared.delims.Delims.{Delims}
use Rattle.x12_segs.specs.Words.{SegValue, IsSetSpan, element_of}
use Rattle.guide_tree.specs.Tree.{GuideTree}
use Rattle.env_index.specs.Words.{GroupEntry, IndexEntry, span_of}
use Rattle.env_index.specs.declared.entry.SetEnvelope.{SetEnvelope}
use Rattle.set_check.specs.SetParts.{set_parts}
use Rattle.set_check.specs.Meets.{MeetsAlone}

abbrev pub is_asked_in : (st01 : Option (List ℕ)) → SegValue → Bool
is_asked_in st01 header = option_map_or (λ id. bytes_eq (element_of header 1) id) st01 true

-- GS01, GS08 and ST01 are those of the guide
pub record IsFor (guide : GuideTree) (group header : SegValue) : Type 0 where
  pub group_id : element_of group 1 ≡ guide.head.group
  pub version : element_of group 8 ≡ guide.head.version
  pub set_id : element_of header 1 ≡ guide.head.set

abbrev pub IsTakenIn : GuideTree → (st01 : Option (List ℕ)) → (text : List ℕ) → Delims → (group : SegValue) → SetEnvelope → Type 0
IsTakenIn guide st01 text d group e = IsTrue (is_asked_in st01 e.header) → IsFor guide group e.header
    × MeetsAlone (Some guide) (set_parts text (span_of d e))

abbrev pub TakesGroupIn : GuideTree → (st01 : Option (List ℕ)) → (text : List ℕ) → Delims → GroupEntry → Type 0
TakesGroupIn guide st01 text d g = All (IsTakenIn guide st01 text d g.header) g.sets

abbrev pub TakesEntry : GuideTree → (st01 : Option (List ℕ)) → (text : List ℕ) → IndexEntry → Type 0
TakesEntry guide st01 text e = e.fault ≡ None
    → All (TakesGroupIn guide st01 text (header_delims e.interchange.header)) e.interchange.content.groups

-- the sets of a group are in their spans
abbrev pub HasSpansIn : (text : List ℕ) → Delims → GroupEntry → Type 0
HasSpansIn text d g = All (λ e. IsSetSpan text (span_of d e)) g.sets

abbrev pub GroupHasSetIn : (st01 : Option (List ℕ)) → GroupEntry → Type 0
GroupHasSetIn st01 g = Any (λ e. IsTrue (is_asked_in st01 e.header)) g.sets

abbrev pub EntryHasSet : (st01 : Option (List ℕ)) → IndexEntry → Type 0
EntryHasSet st01 e = (e.fault ≡ None) × Any (GroupHasSetIn st01) e.interchange.content.groups
