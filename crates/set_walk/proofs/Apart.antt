-- The codes of structural faults are none of those by which elements and dependencies are reported; and two faults of a segment's elements
-- that have one place in the order of faults are one.
use Rattle.std.proofs.Common.{◌≡◌, inl, inr, ℕ, Bool, true, false, List, Option, Some, sym, ◌∙◌, ap, if◌then◌else◌, ◌==◌, ◌||◌, get_or}
use Rattle.std.specs.Str.{bytes_eq}
use Rattle.std.proofs.lemmas.Bool.{false≢true}
use Rattle.hub_kinds.specs.declared.fault.Fault.{Fault}
use Rattle.hub_kinds.specs.declared.fault.ElemFault.{ElemFault}
use Rattle.hub_kinds.specs.declared.codes.SegmentCode.{SegmentCode}
use Rattle.hub_kinds.specs.declared.codes.SegmentCode.TheVariants as ik304
use Rattle.hub_kinds.specs.Words.{segment_rank, key_of, elem_key, contains_text}
use Rattle.x12_bytes.specs.declared.delims.Delims.{Delims}
use Rattle.guide_tree.specs.declared.slot.Slot.{Slot}
use Rattle.guide_tree.specs.Words.{Tree, segment, loop, GuideTree, any_slot, Segment, segment_id, fits, Place, IsSound}
use Rattle.guide_tree.specs.Words.{past_code, few_code, stray_code, IsStructureFault}
use Rattle.elem_rules.specs.ElementFaults.{IsElementFault}
use Rattle.elem_rules.proofs.ForAbove.{is_found, keyed}

-- the codes of element errors and of dependencies, which no structural fault has
abbrev is_apart : (rank : ℕ) → Bool
is_apart rank = (rank == 7) || ((rank == 9) || (rank == 12))

abbrev IsApart : SegmentCode → Type 0
IsApart code = is_apart (segment_rank code) ≡ true

either : (b : Bool) (x y : SegmentCode) → (IsApart x → ⊥) → (IsApart y → ⊥) → IsApart (if b then x else y) → ⊥
either true x y p q h = p h
either false x y p q h = q h

past_is_not : (t : Tree) → IsApart (past_code t) → ⊥
past_is_not (segment s) h = either (s.max == 0) ik304.NotUsedPresent ik304.SegmentTooOften false≢true false≢true h
past_is_not (loop l ts) h = either (l.max == 0) ik304.NotUsedPresent ik304.LoopTooOften false≢true false≢true h

few_is_not : (t : Tree) → IsApart (few_code t) → ⊥
few_is_not (segment s) h = false≢true h
few_is_not (loop l ts) h = false≢true h

stray_is_not : (g : GuideTree) (s : Segment) → IsApart (stray_code g s) → ⊥
stray_is_not g s h =
    let known = any_slot (λ slot. bytes_eq slot.id (segment_id s)) g.nodes in
    let fit = any_slot (λ slot. fits slot s) g.nodes in
    let listed = contains_text g.head.dictionary (segment_id s) in
    either known (if fit then ik304.OutOfSequence else ik304.UnexpectedSegment)
    (if listed then ik304.NotInSet else ik304.UnrecognizedSegment)
    (either fit ik304.OutOfSequence ik304.UnexpectedSegment false≢true false≢true)
    (either listed ik304.NotInSet ik304.UnrecognizedSegment false≢true false≢true) h

pub structure_is_not : (g : GuideTree) (body : List Segment) (given : List (Option Place)) (end : ℕ) (f : Fault)
    → IsStructureFault g body given end f → IsApart f.code → ⊥
structure_is_not g body given end f (inl r) h = past_is_not r.node (ap (λ (x : Fault). is_apart (segment_rank x.code)) (sym r.is) ∙ h)
structure_is_not g body given end f (inr (inl r)) h =
    let e : IsApart r.code = ap (λ (x : Fault). is_apart (segment_rank x.code)) (sym r.is) ∙ h in elim r.cases [
      | inl c ↦ false≢true (ap (λ (x : SegmentCode). is_apart (segment_rank x)) (sym c.1) ∙ e)
      | inr c ↦ few_is_not r.node (ap (λ (x : SegmentCode). is_apart (segment_rank x)) (sym c.2) ∙ e)
    ]
structure_is_not g body given end f (inr (inr r)) h =
    stray_is_not g r.segment (ap (λ (x : Fault). is_apart (segment_rank x.code)) (sym r.is) ∙ h)

pub one_elem : (d : Delims) (s : Segment) (slot : Slot) (e c : ElemFault) → IsSound slot → IsElementFault d s slot e
    → IsElementFault d s slot c → elem_key (Some e) ≡ elem_key (Some c) → e ≡ c
one_elem d s slot e c ok a b k =
    keyed d s slot ok.conditioned e c (is_found d s slot ok.conditioned e a) (is_found d s slot ok.conditioned c b) k

abbrev pub apart_at : Fault → Bool
apart_at f = is_apart (segment_rank f.code)

pub same_apart : (f h : Fault) → key_of f ≡ key_of h → apart_at f ≡ apart_at h
same_apart f h e = ap (λ (l : List ℕ). is_apart (get_or l 1 0)) e
