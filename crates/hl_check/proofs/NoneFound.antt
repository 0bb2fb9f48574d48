-- Where two walks find nothing, the hierarchy is whole.
use Rattle.std.proofs.Common.{◌≡◌, ◌==◌, List, [], ◌∷◌, length, Bool, Some, sym, subst, ◌∙◌, true≢false, false, arith}
use Rattle.std.specs.Bool.{OnTrue}
use Rattle.std.specs.List.{Contains}
use Rattle.std.proofs.lemmas.Bool.{OnTrue_from, ne_eqb}
use Rattle.x12_bytes.specs.declared.delims.Delims.{Delims}
use Rattle.hub_kinds.specs.declared.fault.Fault.{Fault}
use Rattle.guide_tree.specs.declared.rows.HlRule.{HlRule}
use Rattle.elem_rules.proofs.ForAbove.{no_member}
use Rattle.loop_match.specs.PlacedSegments.{PlacedSegment}
use Rattle.hl_check.specs.Hierarchy.{segments_of, IsHierarchyWhole}
use Rattle.hl_check.specs.Found.{found_faults}
use Rattle.hl_check.proofs.Faulty.{members}
use Rattle.hl_check.proofs.Whole.{faultless_as_whole}

pub whole_if_none : (found : List Fault) (b : Bool) → b ≡ (length found == 0) → (rule : HlRule) (d : Delims) (hls : List PlacedSegment)
    → found ≡ found_faults rule d hls (length hls) → OnTrue b (IsHierarchyWhole (Some rule) d (segments_of hls))
whole_if_none [] b e rule d hls is =
    OnTrue_from b _ (λ h. (faultless_as_whole (Some rule) d hls).0
    (λ f r. no_member f (subst (λ (l : List Fault). Contains l f) (sym is) ((members rule d hls f).1 r))))
whole_if_none (y ∷ ys) b e rule d hls is =
    let some : (length (y ∷ ys) == 0) ≡ false = ne_eqb (length (y ∷ ys)) 0 (λ z. absurd (omega (arith, z))) in
    OnTrue_from b _ (λ h. absurd (true≢false (sym h ∙ e ∙ some)))
