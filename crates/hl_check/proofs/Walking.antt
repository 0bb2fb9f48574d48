-- What a walk found, with one more HL.
use Rattle.std.proofs.Common.{◌≡◌, ℕ, ◌+◌, List, ◌∷◌, ◌++◌, take, sym, ap, ◌∙◌, add-one, Option, Some}
use Rattle.std.specs.List.{slice_get}
use Rattle.std.proofs.lemmas.List.{append_assoc}
use Rattle.x12_bytes.specs.declared.delims.Delims.{Delims}
use Rattle.hub_kinds.specs.declared.fault.Fault.{Fault}
use Rattle.hub_kinds.specs.declared.codes.ElementCode.TheVariants as ik403
use Rattle.guide_tree.specs.declared.rows.HlRule.{HlRule}
use Rattle.loop_match.specs.PlacedSegments.{PlacedSegment}
use Rattle.hl_check.specs.Hierarchy.{segments_of, is_child_wrong}
use Rattle.hl_check.specs.Found.{fault_if, faults_behind, faults_at, forward_faults, backward_faults}

pub forward_more : (init old new : List Fault) (rule : HlRule) (d : Delims) (hls : List PlacedSegment) (k : ℕ) (h : PlacedSegment)
    → slice_get hls k ≡ Some h → old ≡ init ++ forward_faults rule d hls k → new ≡ old ++ faults_behind rule d (segments_of (take k hls)) h
    → new ≡ init ++ forward_faults rule d hls (k + 1)
forward_more init old new rule d hls k h there told more =
    more
    ∙ ap (λ (l : List Fault). l ++ faults_behind rule d (segments_of (take k hls)) h) told
    ∙ append_assoc init (forward_faults rule d hls k) (faults_behind rule d (segments_of (take k hls)) h)
    ∙ ap (λ (o : Option PlacedSegment). init ++ (forward_faults rule d hls k ++ faults_at rule d (segments_of (take k hls)) o)) (sym there)
    ∙ ap (λ (n : ℕ). init ++ forward_faults rule d hls n) (sym (add-one k))

pub backward_more : (init old new : List Fault) (d : Delims) (h : PlacedSegment) (later all : List PlacedSegment)
    → all ≡ h ∷ later → old ≡ init ++ backward_faults d later
    → new ≡ old ++ fault_if (is_child_wrong d h.segment (segments_of later)) h 4 ik403.PatternFailure → new ≡ init ++ backward_faults d all
backward_more init old new d h later all e told more =
    more
    ∙ ap (λ (l : List Fault). l ++ fault_if (is_child_wrong d h.segment (segments_of later)) h 4 ik403.PatternFailure) told
    ∙ append_assoc init (backward_faults d later) (fault_if (is_child_wrong d h.segment (segments_of later)) h 4 ik403.PatternFailure)
    ∙ ap (λ (l : List PlacedSegment). init ++ backward_faults d l) (sym e)
