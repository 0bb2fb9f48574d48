-- The element faults that a segment reports are added to a list.
use Rattle.std.proofs.Common.{⊎_elim, ◌≡◌, ◌↔◌, inl, inr, ℕ, List, ◌++◌, map, sym, subst}
use Rattle.std.specs.List.{Contains}
use Rattle.std.proofs.lemmas.List.Elements.{Contains-append_left, Contains-append_right, Contains-append_cases}
use Rattle.x12_segs.specs.Words.{SegValue, elements_of}
use Rattle.hub_kinds.specs.declared.fault.Fault.{Fault}
use Rattle.hub_kinds.specs.declared.fault.ElemFault.{ElemFault}
use Rattle.guide_tree.specs.declared.slot.Slot.{Slot}
use Rattle.guide_law.proofs.ForAbove.{in_map, in_mapped, in_contains, contains_in}
use Rattle.elem_rules.specs.ElementFaults.{IsElementFault}
use Rattle.set_walk.specs.Told.{fault_of_element, IsTold, Adds}
use Rattle.set_walk.specs.Walked.{IsFaultless}

pub told_adds : (old new : List Fault) (found : List ElemFault) (position : ℕ) (seg : SegValue) (loop_id : List ℕ) (slot : Slot)
    → new ≡ old ++ map (fault_of_element position (elements_of seg) loop_id slot) found
    → ((e : ElemFault) → Contains found e ↔ IsElementFault seg.delims (elements_of seg) slot e)
    → Adds old new (IsTold position seg loop_id slot)
told_adds old new found position seg loop_id slot e exact f =
    let tell = fault_of_element position (elements_of seg) loop_id slot in (
      (λ h. ⊎_elim (λ a. inl a)
          (λ b. let m = in_mapped tell found f (contains_in (map tell found) f b) in
          inr (record { elem = m.value; wrong = (exact m.value).0 (in_contains found m.value m.there); is = sym m.is }))
          (Contains-append_cases old (map tell found) f (subst (λ (l : List Fault). Contains l f) e h))),
      (λ h. subst (λ (l : List Fault). Contains l f) (sym e) (⊎_elim (λ a. Contains-append_left old (map tell found) f a)
          (λ t. Contains-append_right old (map tell found) f (subst (λ (x : Fault). Contains (map tell found) x) (sym t.is)
          (in_contains (map tell found) (tell t.elem) (in_map tell found t.elem (contains_in found t.elem ((exact t.elem).1 t.wrong))))))
          h)),
    )

-- where no element is at fault, nothing is added
pub none_added : (old : List Fault) (position : ℕ) (seg : SegValue) (loop_id : List ℕ) (slot : Slot) → IsFaultless seg slot
    → Adds old old (IsTold position seg loop_id slot)
none_added old position seg loop_id slot none f = (λ h. inl h, λ h. ⊎_elim (λ a. a) (λ t. absurd (none t.elem t.wrong)) h)
