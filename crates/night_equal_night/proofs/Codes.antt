-- The codes of a set's faults: code 8 reports just the faults of elements.
use Rattle.std.proofs.Common.{◌≡◌, inl, inr, ℕ, zero, suc, ◌==◌, ◌&&◌, ◌||◌, List, [], ◌∷◌, Bool, true, false, not, Option, Some, None}
use Rattle.std.proofs.Common.{refl, sym, ap, ◌∙◌}
use Rattle.std.specs.Prelude.{IsSomeAnd, bytes_eq, codes}
use Rattle.std.specs.List.{list_all, All}
use Rattle.std.proofs.lemmas.List.Elements.{All-cons, All-nil}
use Rattle.x12_bytes.specs.declared.delims.Delims.{Delims}
use Rattle.hub_kinds.specs.declared.fault.Fault.{Fault}
use Rattle.hub_kinds.specs.declared.fault.ElemFault.{ElemFault}
use Rattle.hub_kinds.specs.declared.codes.SegmentCode.{SegmentCode}
use Rattle.hub_kinds.specs.declared.codes.SegmentCode.TheVariants as ik304
use Rattle.hub_kinds.specs.Words.{segment_code_text, segment_rank}
use Rattle.guide_tree.specs.declared.rows.HlRule.{HlRule}
use Rattle.guide_tree.specs.declared.rows.DependencyKind.{DependencyKind}
use Rattle.guide_tree.specs.declared.rows.DependencyKind.TheVariants as kind
use Rattle.guide_tree.specs.Words.{Trees, GuideTree, Segment, Place, placing_of, IsStructureFault}
use Rattle.guide_tree.proofs.ForAbove.{In}
use Rattle.guide_law.proofs.ForAbove.{in_contains}
use Rattle.loop_match.specs.PlacedSegments.{PlacedSegment, placed_segments}
use Rattle.hl_check.specs.Hierarchy.{IsFaultAmong, hls_of}
use Rattle.depend_check.specs.Dependencies.{IsTargetBroken}
use Rattle.set_walk.proofs.ForAbove.{apart_at, structure_is_not}
use Rattle.set_check.specs.SetParts.{SetParts, end_position}
use Rattle.set_check.specs.SetFaults.{AreSetFaults, IsSetFault, IsFaultUnder, IsRuleFault}
use Rattle.ack_999.specs.Faults.{code_shown}
use Rattle.night_equal_set.specs.SetCodes.{is_told}
use Rattle.night_equal_writing.specs.Acknowledgments.{HasItsCode}

-- it is reported, and by its own code
abbrev IsCoded : Fault → Type 0
IsCoded f = (is_told f ≡ true) × HasItsCode f

not_eight : (f : Fault) (c : SegmentCode) → f.code ≡ c → (apart_at f ≡ true → ⊥) → not (bytes_eq (segment_code_text c) (codes "8")) ≡ true
not_eight f ik304.ElementErrors e off =
    absurd (off (ap (λ c. let rank = segment_rank c in (rank == 7) || ((rank == 9) || (rank == 12))) e))
not_eight f ik304.UnrecognizedSegment e off = refl
not_eight f ik304.UnexpectedSegment e off = refl
not_eight f ik304.RequiredSegmentMissing e off = refl
not_eight f ik304.LoopTooOften e off = refl
not_eight f ik304.SegmentTooOften e off = refl
not_eight f ik304.NotInSet e off = refl
not_eight f ik304.OutOfSequence e off = refl
not_eight f ik304.NotUsedPresent e off = refl
not_eight f ik304.DependentMissing e off = refl
not_eight f ik304.LoopTooSeldom e off = refl
not_eight f ik304.SegmentTooSeldom e off = refl
not_eight f ik304.DependentNotUsedPresent e off = refl

told_alone : (f : Fault) → not (bytes_eq (segment_code_text f.code) (codes "8")) ≡ true → is_told f ≡ true
told_alone f is = by f.elem
  where
    by : (o : Option ElemFault) → is_told (record f { elem = o }) ≡ true
    by None = is
    by (Some e) = refl

-- a structural fault has no element
structure_none : (g : GuideTree) (body : List Segment) (given : List (Option Place)) (end : ℕ) (f : Fault)
    → IsStructureFault g body given end f → f.elem ≡ None
structure_none g body given end f (inl r) = ap (λ (x : Fault). x.elem) r.is
structure_none g body given end f (inr (inl r)) = ap (λ (x : Fault). x.elem) r.is
structure_none g body given end f (inr (inr r)) = ap (λ (x : Fault). x.elem) r.is

shown_none : (f : Fault) → f.elem ≡ None → HasItsCode f
shown_none f e = ap (λ o. code_shown (record f { elem = o })) e

same_coded : (f h : Fault) → f ≡ h → IsCoded h → IsCoded f
same_coded f h e is = (ap is_told e ∙ is.0, ap code_shown e ∙ is.1 ∙ sym (ap (λ (x : Fault). x.code) e))

hierarchy_coded : (g : GuideTree) (d : Delims) (body : List Segment) (given : List (Option Place)) (rule : Option HlRule) (f : Fault)
    → IsSomeAnd rule (λ r. IsFaultAmong r d (hls_of g.nodes body given) f) → IsCoded f
hierarchy_coded g d body given None f h = absurd h
hierarchy_coded g d body given (Some rule) f r = elim r.wrong [
  | inl w ↦ same_coded f _ w.1 (refl, refl)
  | inr v ↦ elim v [
    | inl w ↦ same_coded f _ w.1 (refl, refl)
    | inr u ↦ elim u [ inl w ↦ same_coded f _ w.1 (refl, refl) | inr w ↦ same_coded f _ w.1 (refl, refl) ]
  ]
]

target_coded : (ts : Trees) (d : Delims) (end : ℕ) (placed : List PlacedSegment) (label : List ℕ) (which : DependencyKind) (element : ℕ)
    (f : Fault) → IsTargetBroken ts d end placed label which element f → IsCoded f
target_coded ts d end placed label kind.Need zero f b = same_coded f _ b.3 (refl, refl)
target_coded ts d end placed label kind.Ban zero f b = same_coded f _ b.3 (refl, refl)
target_coded ts d end placed label kind.Need (suc e) f b = same_coded f _ b.2 (refl, refl)
target_coded ts d end placed label kind.Ban (suc e) f b = same_coded f _ b.2 (refl, refl)

rule_coded : (g : GuideTree) (d : Delims) (body : List Segment) (given : List (Option Place)) (end : ℕ) (f : Fault)
    → IsRuleFault g d body given end f → IsCoded f
rule_coded g d body given end f (inl h) = hierarchy_coded g d body given g.hl f h
rule_coded g d body given end f (inr r) =
    target_coded g.nodes d end (placed_segments g.nodes body given) r.dependency.target r.dependency.kind r.dependency.element f r.broken

under_coded : (g : GuideTree) (parts : SetParts) (given : List (Option Place)) (f : Fault) → IsFaultUnder g parts given f → IsCoded f
under_coded g parts given f (inl h) = (
  told_alone f (not_eight f f.code refl (structure_is_not g parts.body given (end_position parts) f h)),
  shown_none f (structure_none g parts.body given (end_position parts) f h),
)
under_coded g parts given f (inr (inl r)) = same_coded f _ r.is (refl, refl)
under_coded g parts given f (inr (inr h)) = rule_coded g parts.delims parts.body given (end_position parts) f h.0

coded : (guide : Option GuideTree) (parts : SetParts) (f : Fault) → IsSetFault guide parts f → IsCoded f
coded None parts f h = absurd h
coded (Some g) parts f h = under_coded g parts (placing_of g.nodes parts.body) f h

all_told : (fs : List Fault) → ((f : Fault) → In fs f → IsCoded f) → list_all is_told fs ≡ true
all_told [] each = refl
all_told (f ∷ fs) each = by (is_told f) (each f (inl refl)).0 (all_told fs (λ h i. each h (inr i)))
  where
    by : (b : Bool) → b ≡ true → list_all is_told fs ≡ true → (b && list_all is_told fs) ≡ true
    by true is rest = rest
    by false is rest = cc

all_shown : (fs : List Fault) → ((f : Fault) → In fs f → IsCoded f) → All HasItsCode fs
all_shown [] each = All-nil HasItsCode
all_shown (f ∷ fs) each = All-cons HasItsCode f fs (each f (inl refl)).1 (all_shown fs (λ h i. each h (inr i)))

module _ (guide : Option GuideTree) (parts : SetParts) (faults : List Fault) (are : AreSetFaults guide parts faults) where
  pub faults_told : list_all is_told faults ≡ true
  faults_told = all_told faults (λ f i. coded guide parts f ((are f).0 (in_contains faults f i)))

  pub faults_shown : All HasItsCode faults
  faults_shown = all_shown faults (λ f i. coded guide parts f ((are f).0 (in_contains faults f i)))
