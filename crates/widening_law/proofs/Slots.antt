-- A segment in which no element is at fault by an old slot has none at fault by a wider one.
use Rattle.std.proofs.Common.{◌≡◌, ℕ, zero, suc, ◌+◌, ◌-◌, ◌≤◌, ◌<◌, ◌⊎◌, inl, inr, List, [], ◌∷◌, Bool, true, false, length}
use Rattle.std.proofs.Common.{refl, sym, ap, ◌∙◌, subst, arith, Option, Some, None, drop}
use Rattle.std.specs.Prelude.{◌&&◌, ◌==◌, slice_get}
use Rattle.std.specs.List.{Contains, list_any}
use Rattle.std.specs.Str.{bytes_eq}
use Rattle.std.proofs.lemmas.Bool.{and_parts, eqb-true}
use Rattle.x12_bytes.specs.declared.delims.Delims.{Delims}
use Rattle.x12_segs.specs.Words.{part_or_empty}
use Rattle.hub_kinds.specs.declared.fault.ElemFault.{ElemFault}
use Rattle.guide_tree.specs.declared.element.Element.{Element}
use Rattle.guide_tree.specs.declared.slot.Slot.{Slot}
use Rattle.guide_tree.specs.declared.slot.Condition.{Condition}
use Rattle.guide_tree.specs.declared.slot.Relation.{Relation}
use Rattle.guide_tree.specs.declared.slot.Relation.TheVariants.{Paired, Required, Exclusion, Conditional, ListConditional}
use Rattle.guide_tree.specs.Words.{Segment, element_at}
use Rattle.elem_rules.specs.Conditions.{is_present, broken_at}
use Rattle.elem_rules.specs.Divided.{is_empty, has_more}
use Rattle.elem_rules.specs.Rows.{nth}
use Rattle.elem_rules.specs.ElementFaults.{Wrong, IsWrong, IsElementFault, IsExtraElement, IsRowFault, IsConditionFault}
use Rattle.guide_widening.specs.Rows.{are_wider_elements, fits_empty, is_wider_element, is_wider_range}
use Rattle.guide_widening.specs.Nodes.{relation_number, is_same_condition, are_wider_conditions, are_wider_picks, is_same_text}
use Rattle.guide_widening.specs.Nodes.{is_wider_slot}
use Rattle.widening_law.proofs.Elements.{false_or_true}
use Rattle.widening_law.proofs.Empties.{past_empty, fewer_none}
use Rattle.widening_law.proofs.Listed.{all_of, any_of, same_texts}
use Rattle.widening_law.proofs.Rows.{Held, element_held, elements_more}
use Rattle.widening_law.proofs.Usages.{IsElementRight, element_free, empty_free}

same_relation : (r q : Relation) → (relation_number r == relation_number q) ≡ true → r ≡ q
same_relation Paired Paired h = refl
same_relation Required Required h = refl
same_relation Exclusion Exclusion h = refl
same_relation Conditional Conditional h = refl
same_relation ListConditional ListConditional h = refl
same_relation r q h = cc

same_condition : (c d : Condition) → is_same_condition c d ≡ true → c ≡ d
same_condition c d h =
    let p = and_parts (relation_number c.relation == relation_number d.relation) (bytes_eq c.positions d.positions) h in
    let r : c.relation ≡ d.relation = same_relation c.relation d.relation p.0 in
    let q : c.positions ≡ d.positions = same_texts c.positions d.positions p.1 in
    ap (λ (x : Relation). record { relation = x; positions = c.positions }) r
    ∙ ap (λ (x : List ℕ). record { relation = d.relation; positions = x }) q

pub condition_before : (old new : List Condition) (c : Condition) → are_wider_conditions old new ≡ true → Contains new c → Contains old c
condition_before old new c h there =
    let m = any_of (λ (before : Condition). is_same_condition before c) old
    (all_of (λ (condition : Condition). list_any (λ before. is_same_condition before condition) old) new c h there) in
    subst (λ (x : Condition). Contains old x) (same_condition m.one c m.passes) m.among

pub record IsWiderSlot (old new : Slot) : Type 0 where
  pub id : bytes_eq old.id new.id ≡ true
  pub label : is_same_text old.label new.label ≡ true
  pub range : is_wider_range old.min old.max new.min new.max ≡ true
  pub picks : are_wider_picks old.picks new.picks ≡ true
  pub elements : are_wider_elements old.elements new.elements ≡ true
  pub conditions : are_wider_conditions old.conditions new.conditions ≡ true

pub slot_parts : (old new : Slot) → is_wider_slot old new ≡ true → IsWiderSlot old new
slot_parts old new h =
    let a = and_parts _ _ h in
    let b = and_parts _ _ a.0 in
    let c = and_parts _ _ b.0 in
    let d = and_parts _ _ c.0 in
    let e = and_parts _ _ d.0 in
    record { id = e.0; label = e.1; range = d.1; picks = c.1; elements = b.1; conditions = a.1 }

-- an element is one of those after the segment's id
element_after : (s : Segment) (k : ℕ) → part_or_empty (drop 1 s) k ≡ element_at s (suc k)
element_after [] k = refl
element_after (x ∷ s) k = refl

module _ (delims : Delims) (s : Segment) (old new : Slot) (wider : IsWiderSlot old new)
    (none : (e : ElemFault) → IsElementFault delims s old e → ⊥) where
  none_extra : has_more delims (length old.elements) (drop 1 s) ≡ false
  none_extra = false_or_true delims _ (λ more. none _ (inl (record { more = more; is = refl })))

  row_by : (k : ℕ) (row : Element) → Held is_wider_element fits_empty old.elements k row
      → IsElementRight delims row (element_at s (suc k))
  row_by k row (inl b) =
      element_free delims b.before row (element_at s (suc k)) b.is
      (λ w wrong. none _ (inr (inl (record { position = suc k; row = b.before; there = b.there; w = w; wrong = wrong; is = refl }))))
  row_by k row (inr p) =
      empty_free delims row (element_at s (suc k)) p.1
      (subst (λ (t : List ℕ). is_empty delims t ≡ true) (element_after s k)
      (past_empty delims (length old.elements) k (drop 1 s) none_extra p.0))

  row_free : (position : ℕ) (row : Element) (w : Wrong) → nth new.elements position ≡ Some row
      → IsWrong delims row (element_at s position) w → ⊥
  row_free zero row w there wrong = let n : None ≡ Some row = there in cc
  row_free (suc k) row w there wrong = row_by k row (element_held old.elements new.elements k row wider.elements there) w wrong

  pub slot_free : (e : ElemFault) → IsElementFault delims s new e → ⊥
  slot_free e (inl h) =
      let a : has_more delims (length new.elements) (drop 1 s) ≡ true = h.more in
      let b = fewer_none delims (length old.elements) (length new.elements) (drop 1 s) none_extra
      (elements_more old.elements new.elements wider.elements) in
      cc
  slot_free e (inr (inl h)) = row_free h.position h.row h.w h.there h.wrong
  slot_free e (inr (inr h)) = none _ (inr (inr (record {
    condition = h.condition;
    listed = condition_before old.conditions new.conditions h.condition wider.conditions h.listed;
    position = h.position;
    broken = h.broken;
    is = refl;
  })))
