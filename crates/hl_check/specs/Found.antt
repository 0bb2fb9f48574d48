-- X12.6, hierarchical level segment (own): the faults of a hierarchy as two walks find them. Private.
use Rattle.std.specs.Prelude.{ℕ, zero, suc, List, [], ◌∷◌, ◌++◌, take, Option, Some, None, slice_get, Bool, if◌then◌else◌}
use Rattle.x12_bytes.specs.declared.delims.Delims.{Delims}
use Rattle.hub_kinds.specs.declared.codes.ElementCode.{ElementCode}
use Rattle.hub_kinds.specs.declared.codes.ElementCode.TheVariants as ik403
use Rattle.hub_kinds.specs.declared.fault.Fault.{Fault}
use Rattle.guide_tree.specs.declared.rows.HlRule.{HlRule}
use Rattle.guide_tree.specs.Words.{Segment}
use Rattle.loop_match.specs.PlacedSegments.{PlacedSegment}
use Rattle.hl_check.specs.Hierarchy.{segments_of, hl_fault, is_number_wrong, is_parent_wrong, is_level_wrong, is_child_wrong}

abbrev pub fault_if : Bool → PlacedSegment → (element : ℕ) → ElementCode → List Fault
fault_if wrong h element code = if wrong then hl_fault h element code ∷ [] else []

-- what the earlier ones show of an HL
abbrev pub faults_behind : HlRule → Delims → (earlier : List Segment) → PlacedSegment → List Fault
faults_behind rule delims earlier h =
    fault_if (is_number_wrong rule delims earlier h.segment) h 1 ik403.PatternFailure
    ++ (fault_if (is_parent_wrong delims earlier h.segment) h 2 ik403.PatternFailure
    ++ fault_if (is_level_wrong rule delims earlier h.segment) h 3 ik403.CodeNotUsed)

abbrev pub faults_at : HlRule → Delims → (earlier : List Segment) → Option PlacedSegment → List Fault
faults_at rule delims earlier None = []
faults_at rule delims earlier (Some h) = faults_behind rule delims earlier h

-- what they show of the first n, from the first on
abbrev pub forward_faults : HlRule → Delims → List PlacedSegment → (n : ℕ) → List Fault
forward_faults rule delims hls zero = []
forward_faults rule delims hls (suc n) =
    forward_faults rule delims hls n ++ faults_at rule delims (segments_of (take n hls)) (slice_get hls n)

-- what the later ones show, from the last on
abbrev pub backward_faults : Delims → List PlacedSegment → List Fault
backward_faults delims [] = []
backward_faults delims (h ∷ later) =
    backward_faults delims later ++ fault_if (is_child_wrong delims h.segment (segments_of later)) h 4 ik403.PatternFailure

-- what both walks find
abbrev pub found_faults : HlRule → Delims → List PlacedSegment → (n : ℕ) → List Fault
found_faults rule delims hls n = forward_faults rule delims hls n ++ backward_faults delims hls
