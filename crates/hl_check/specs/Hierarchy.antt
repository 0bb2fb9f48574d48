-- X12.6, hierarchical level segment (HL): what is wrong with the hierarchy of a set. How the 999 guide's IK4 reports it is own.
use Rattle.std.specs.Prelude.{ℕ, ◌+◌, ◌≡◌, ◌⊎◌, IsTrue, IsFalse, IsSomeAnd, codes, decimal}
use Rattle.std.specs.Prelude.{List, length, map, take, drop}
use Rattle.std.specs.Prelude.{Option, Some, None, is_some, is_none, slice_get}
use Rattle.std.specs.Prelude.{Bool, false, ◌&&◌, ◌||◌, not, if◌then◌else◌}
use Rattle.std.specs.List.{filter, find, list_any}
use Rattle.std.specs.Option.{option_map_or}
use Rattle.std.specs.Str.{bytes_eq}
use Rattle.x12_bytes.specs.declared.delims.Delims.{Delims}
use Rattle.hub_kinds.specs.declared.codes.SegmentCode.TheVariants as ik304
use Rattle.hub_kinds.specs.declared.codes.ElementCode.{ElementCode}
use Rattle.hub_kinds.specs.declared.codes.ElementCode.TheVariants as ik403
use Rattle.hub_kinds.specs.declared.fault.Fault.{Fault}
use Rattle.guide_tree.specs.declared.rows.HlRule.{HlRule}
use Rattle.guide_tree.specs.declared.rows.HlPair.{HlPair}
use Rattle.guide_tree.specs.Words.{Trees, GuideTree, Segment, element_at, segment_id, Place}
use Rattle.elem_rules.specs.Divided.{is_filled}
use Rattle.elem_rules.specs.Rows.{reference_at}
use Rattle.loop_match.specs.PlacedSegments.{PlacedSegment, placed_segments}

abbrev pub is_hl : Segment → Bool
is_hl s = bytes_eq (segment_id s) (codes "HL")

-- HL01, the segment's own number; HL02, its parent's; HL03, its level; HL04, whether it has children
abbrev pub hierarchical_id_of : Segment → List ℕ
hierarchical_id_of h = element_at h 1

abbrev pub parent_id_of : Segment → List ℕ
parent_id_of h = element_at h 2

abbrev pub level_of : Segment → List ℕ
level_of h = element_at h 3

abbrev pub child_of : Segment → List ℕ
child_of h = element_at h 4

-- Values are compared byte by byte. Empty is what has no byte but component and repetition separators.

-- the first HL of some with a number
abbrev pub first_numbered : (number : List ℕ) → List Segment → Option Segment
first_numbered number hls = find (λ h. bytes_eq (hierarchical_id_of h) number) hls

-- HL01 isn't empty, and is that of an earlier HL, or isn't the count of HLs where the guide asks for it
abbrev pub is_number_wrong : HlRule → Delims → (earlier : List Segment) → Segment → Bool
is_number_wrong rule delims earlier h =
    is_filled delims (hierarchical_id_of h)
    && (is_some (first_numbered (hierarchical_id_of h) earlier)
    || (rule.sequential && not (bytes_eq (hierarchical_id_of h) (decimal (length earlier + 1)))))

-- HL02 isn't empty, and no earlier HL has it
abbrev pub is_parent_wrong : Delims → (earlier : List Segment) → Segment → Bool
is_parent_wrong delims earlier h = is_filled delims (parent_id_of h) && is_none (first_numbered (parent_id_of h) earlier)

-- a guide's pair of a level and the level of its parent; a root has no parent
abbrev pub is_pair : (parent : Option (List ℕ)) → (child : List ℕ) → HlPair → Bool
is_pair None child pair = is_none pair.parent && bytes_eq pair.child child
is_pair (Some level) child pair = option_map_or (λ own. bytes_eq own level) pair.parent false && bytes_eq pair.child child

abbrev pub is_listed : HlRule → (parent : Option (List ℕ)) → (child : List ℕ) → Bool
is_listed rule parent child = list_any (is_pair parent child) rule.pairs

-- HL03 isn't listed below the level of its parent, the first earlier HL that HL02 names; where HL02 is empty, as that of a root.
-- Where HL02 names none it isn't judged.
abbrev pub is_level_wrong : HlRule → Delims → (earlier : List Segment) → Segment → Bool
is_level_wrong rule delims earlier h =
    if is_filled delims (parent_id_of h)
    then option_map_or (λ p. not (is_listed rule (Some (level_of p)) (level_of h))) (first_numbered (parent_id_of h) earlier) false
    else not (is_listed rule None (level_of h))

-- some HL02 is this number; an empty one is none
abbrev pub is_named : Delims → List Segment → (number : List ℕ) → Bool
is_named delims hls number = list_any (λ h. is_filled delims (parent_id_of h) && bytes_eq (parent_id_of h) number) hls

-- HL04 says that there are children and none comes later, or that there are none and one does
abbrev pub is_child_wrong : Delims → Segment → (later : List Segment) → Bool
is_child_wrong delims h later =
    (bytes_eq (child_of h) (codes "1") && not (is_named delims later (hierarchical_id_of h)))
    || (bytes_eq (child_of h) (codes "0") && is_named delims later (hierarchical_id_of h))

-- the HL segments of a body, in their order
abbrev pub hl_segments : List Segment → List Segment
hl_segments body = filter is_hl body

-- nothing is wrong with an HL that is after the earlier and before the later ones
abbrev pub IsHlWhole : HlRule → Delims → (earlier : List Segment) → Segment → (later : List Segment) → Type 0
IsHlWhole rule delims earlier h later =
    IsFalse (is_number_wrong rule delims earlier h)
    × IsFalse (is_parent_wrong delims earlier h)
    × IsFalse (is_level_wrong rule delims earlier h)
    × IsFalse (is_child_wrong delims h later)

-- nothing is wrong with any of these HLs; without a rule nothing is asked
abbrev pub IsHierarchyWhole : Option HlRule → Delims → List Segment → Type 0
IsHierarchyWhole None delims hls = Unit {0}
IsHierarchyWhole (Some rule) delims hls =
    (count : ℕ) (h : Segment) → slice_get hls count ≡ Some h → IsHlWhole rule delims (take count hls) h (drop (count + 1) hls)

abbrev pub segments_of : List PlacedSegment → List Segment
segments_of hls = map (λ h. h.segment) hls

-- the HL segments that have places, in their order
abbrev pub hls_of : Trees → List Segment → List (Option Place) → List PlacedSegment
hls_of ts body given = filter (λ h. is_hl h.segment) (placed_segments ts body given)

-- a fault of an element of an HL: with the reference number of the element's row, where its slot has one, and the whole element
abbrev pub hl_fault : PlacedSegment → (element : ℕ) → ElementCode → Fault
hl_fault h element code = record {
  position = h.position;
  id = segment_id h.segment;
  loop_id = h.loop_id;
  code = ik304.ElementErrors;
  slot = h.slot.number;
  elem = Some (record {
    element = element;
    component = 0;
    repetition = 0;
    code = code;
    reference = reference_at h.slot.elements element;
    copy = element_at h.segment element;
  });
}

-- what is wrong with an HL that is after the earlier and before the later ones
abbrev pub IsHlFault : HlRule → Delims → (earlier : List PlacedSegment) → PlacedSegment → (later : List PlacedSegment) → Fault → Type 0
IsHlFault rule delims earlier h later f =
    (IsTrue (is_number_wrong rule delims (segments_of earlier) h.segment) × (f ≡ hl_fault h 1 ik403.PatternFailure))
    ⊎ ((IsTrue (is_parent_wrong delims (segments_of earlier) h.segment) × (f ≡ hl_fault h 2 ik403.PatternFailure))
    ⊎ ((IsTrue (is_level_wrong rule delims (segments_of earlier) h.segment) × (f ≡ hl_fault h 3 ik403.CodeNotUsed))
    ⊎ (IsTrue (is_child_wrong delims h.segment (segments_of later)) × (f ≡ hl_fault h 4 ik403.PatternFailure))))

-- one of these HLs has the fault
pub record IsFaultAmong (rule : HlRule) (delims : Delims) (hls : List PlacedSegment) (f : Fault) : Type 0 where
  pub count : ℕ
  pub hl : PlacedSegment
  pub there : slice_get hls count ≡ Some hl
  pub wrong : IsHlFault rule delims (take count hls) hl (drop (count + 1) hls) f

-- the faults of the hierarchy of a body whose segments are given these places; none where the guide has no rule
abbrev pub IsHierarchyFault : GuideTree → Delims → List Segment → List (Option Place) → Fault → Type 0
IsHierarchyFault g delims body given f = IsSomeAnd g.hl (λ rule. IsFaultAmong rule delims (hls_of g.nodes body given) f)
