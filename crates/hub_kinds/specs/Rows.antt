-- Own. How a list of faults is kept: each fault as a row of numbers, beside the texts that faults share. Private.
use Rattle.std.specs.Prelude.{Bool, true, false, ℕ, ◌≡◌, ◌<◌, ◌≤◌, ◌+◌, ◌*◌, ◌++◌, ◌∷◌, List, []}
use Rattle.std.specs.Prelude.{Option, Some, None, length, map, slice_index_or}
use Rattle.std.specs.List.{Contains}
use Rattle.hub_kinds.specs.declared.codes.SegmentCode.{SegmentCode}
use Rattle.hub_kinds.specs.declared.codes.SegmentCode.TheVariants.{ElementErrors, UnrecognizedSegment}
use Rattle.hub_kinds.specs.declared.codes.ElementCode.{ElementCode}
use Rattle.hub_kinds.specs.declared.fault.Fault.{Fault}
use Rattle.hub_kinds.specs.declared.fault.ElemFault.{ElemFault}
use Rattle.hub_kinds.specs.Codes.{element_rank, segment_rank}
use Rattle.hub_kinds.specs.Fault.{elem_key, key_of}
use Rattle.hub_kinds.specs.Rising.{IsRisingBy}
use Rattle.hub_kinds.specs.declared.row.Row.{Row}
use Rattle.hub_kinds.specs.declared.row.RowKind.{RowKind}
use Rattle.hub_kinds.specs.declared.row.RowKind.TheVariants as kinds
use Rattle.hub_kinds.specs.declared.texts.Pair.{Pair}

-- a list that goes on where another ends
pub record Extends {A : Type 0} (old new : List A) : Type 0 where
  pub rest : List A
  pub is : new ≡ old ++ rest

abbrev pub no_pair : Pair
no_pair = record { first = []; second = [] }

abbrev pub no_fault : Fault
no_fault = record { position = 0; id = []; loop_id = []; code = UnrecognizedSegment; slot = 0; elem = None }

-- two texts by their index
abbrev pub pair_at : List Pair → ℕ → Pair
pair_at pairs index = slice_index_or pairs index no_pair

-- an index is that of these texts
pub record IsPairAt (pairs : List Pair) (index : ℕ) (first second : List ℕ) : Type 0 where
  pub within : index < length pairs
  pub is_first : (pair_at pairs index).first ≡ first
  pub is_second : (pair_at pairs index).second ≡ second

-- which of the faults that are kept whole
abbrev pub whole_index : Row → ℕ
whole_index row = row.place * 4294967296 + row.position

-- the segment's part of a row
abbrev pub segment_fault : Pair → Row → SegmentCode → Option ElemFault → Fault
segment_fault place row code elem = record {
  position = row.position;
  id = place.first;
  loop_id = place.second;
  code = code;
  slot = row.slot;
  elem = elem;
}

-- the element's part of a row
abbrev pub element_fault : Pair → Row → ElementCode → ElemFault
element_fault value row code = record {
  element = row.element;
  component = row.component;
  repetition = row.repetition;
  code = code;
  reference = value.second;
  copy = value.first;
}

-- the fault of a row of this kind
abbrev pub fault_by : List Pair → List Fault → Row → RowKind → Fault
fault_by pairs whole row (kinds.Segment code) = segment_fault (pair_at pairs row.place) row code None
fault_by pairs whole row (kinds.Element code) =
    segment_fault (pair_at pairs row.place) row ElementErrors (Some (element_fault (pair_at pairs row.value) row code))
fault_by pairs whole row kinds.Whole = slice_index_or whole (whole_index row) no_fault

-- the fault of a row
abbrev pub fault_at : List Pair → List Fault → Row → Fault
fault_at pairs whole row = fault_by pairs whole row row.kind

-- the key of the numbers of a row
abbrev pub packed_key : Row → (segment element : ℕ) → List ℕ
packed_key row segment element =
    row.position ∷ segment ∷ row.slot ∷ row.element ∷ row.component ∷ row.repetition ∷ element ∷ []

-- the key of the fault of a row of this kind
abbrev pub row_key_by : List Fault → Row → RowKind → List ℕ
row_key_by whole row (kinds.Segment code) =
    row.position ∷ segment_rank code ∷ row.slot ∷ elem_key None
row_key_by whole row (kinds.Element code) = packed_key row (segment_rank ElementErrors) (element_rank code)
row_key_by whole row kinds.Whole = key_of (slice_index_or whole (whole_index row) no_fault)

-- the key of the fault of a row, for which no text is read
abbrev pub row_key : List Fault → Row → List ℕ
row_key whole row = row_key_by whole row row.kind

-- a fault of this kind is kept whole
abbrev pub is_whole : RowKind → Bool
is_whole (kinds.Segment _) = false
is_whole (kinds.Element _) = false
is_whole kinds.Whole = true

-- some of these values, each before the next, and one with the key of each
pub record IsOnceEach {A : Type 0} (key : A → List ℕ) (old new : List A) : Type 0 where
  pub from : (x : A) → Contains new x → Contains old x
  pub to : (x : A) → Contains old x → (y : A) × Contains new y × (key x ≡ key y)
  pub rising : IsRisingBy key new

-- what a row of this kind names is there
abbrev pub IsKeptBy : List Pair → List Fault → Row → RowKind → Type 0
IsKeptBy pairs whole row (kinds.Segment code) = row.place < length pairs
IsKeptBy pairs whole row (kinds.Element code) = (row.place < length pairs) × (row.value < length pairs)
IsKeptBy pairs whole row kinds.Whole = whole_index row < length whole

-- what a row names is there
abbrev pub IsKept : List Pair → List Fault → Row → Type 0
IsKept pairs whole row = IsKeptBy pairs whole row row.kind

-- a fault has a row, whatever is kept whole
abbrev pub IsRowOf : List Pair → Fault → Row → Type 0
IsRowOf pairs fault row = (whole : List Fault) → IsKept pairs whole row × (fault_at pairs whole row ≡ fault)

-- the numbers of a fault's element fit a row
abbrev pub FitsElement : SegmentCode → Option ElemFault → Type 0
FitsElement code None = Unit {0}
FitsElement code (Some e) = (code ≡ ElementErrors) × (e.element < 65536) × (e.component < 65536) × (e.repetition < 65536)

-- the numbers of a fault fit a row
pub record Fits (fault : Fault) : Type 0 where
  pub position : fault.position < 4294967296
  pub slot : fault.slot < 65536
  pub element : FitsElement fault.code fault.elem

-- all rows of a list
abbrev pub AreKept : List Pair → List Fault → List Row → Type 0
AreKept pairs whole rows = (row : Row) → Contains rows row → IsKept pairs whole row
