-- 999 guide, error identification (IK3) and implementation data element note (IK4): what is reported at each position of a set whose
-- faults are in their order (own), each once.
use Rattle.std.specs.Prelude.{ℕ, ◌≡◌, ◌==◌, Bool, is_some, nat_lt, List, [], ◌∷◌, ◌++◌, All, map, filter, filter_map}
use Rattle.x12_bytes.specs.declared.delims.Delims.{Delims}
use Rattle.hub_kinds.specs.Words.{segment_rank, AreRising}
use Rattle.hub_kinds.specs.declared.codes.SegmentCode.TheVariants.{ElementErrors}
use Rattle.hub_kinds.specs.declared.fault.Fault.{Fault}
use Rattle.ack_999.specs.Faults.{Note, SegmentNote, ElementNote, note_segment, fault_segments}

-- an element is at fault exactly where the segment's code is 8
abbrev pub is_of_element : Fault → Bool
is_of_element f = is_some f.elem

abbrev pub rank_of : Fault → ℕ
rank_of f = segment_rank f.code

abbrev pub IsToldByElements : Fault → Type 0
IsToldByElements f = is_of_element f ≡ (rank_of f == segment_rank ElementErrors)

-- the code comes before 8, or after it
abbrev pub comes_before : Fault → Bool
comes_before f = nat_lt (rank_of f) (segment_rank ElementErrors)

abbrev pub comes_behind : Fault → Bool
comes_behind f = nat_lt (segment_rank ElementErrors) (rank_of f)

-- where the fault is, by a position
abbrev pub is_below : ℕ → Fault → Bool
is_below p f = nat_lt f.position p

abbrev pub is_at : ℕ → Fault → Bool
is_at p f = f.position == p

abbrev pub is_above : ℕ → Fault → Bool
is_above p f = nat_lt p f.position

-- structural faults: an IK3 each
abbrev pub segment_notes : List Fault → List Note
segment_notes faults = map (λ f. SegmentNote f) faults

-- element faults of one segment: one IK3, whose code is 8, and after it an IK4 each
abbrev pub element_notes : List Fault → List Note
element_notes [] = []
element_notes (f ∷ faults) = SegmentNote f ∷ map (λ e. ElementNote e) (filter_map (λ g. g.elem) (f ∷ faults))

-- the notes on the faults of one position
abbrev pub notes_at : List Fault → List Note
notes_at faults =
    segment_notes (filter comes_before faults)
    ++ element_notes (filter is_of_element faults)
    ++ segment_notes (filter comes_behind faults)

-- what is reported of faults is, for each position, what is reported of those below, the notes on those at it, and what is reported of
-- those above
abbrev pub TellsEachPosition : Type 0
TellsEachPosition =
    (d : Delims) (faults : List Fault) → AreRising faults → All IsToldByElements faults → (p : ℕ)
    → fault_segments d faults
    ≡ fault_segments d (filter (is_below p) faults)
    ++ map (note_segment d) (notes_at (filter (is_at p) faults))
    ++ fault_segments d (filter (is_above p) faults)
