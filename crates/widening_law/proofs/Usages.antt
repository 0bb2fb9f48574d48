-- An element in which nothing is wrong by an old row has nothing wrong by a wider one.
use Rattle.std.proofs.Common.{◌≡◌, ℕ, zero, suc, ◌+◌, ◌-◌, ◌≤◌, ◌<◌, ◌⊎◌, inl, inr, List, [], ◌∷◌, Bool, true, false, length}
use Rattle.std.proofs.Common.{refl, sym, ap, ◌∙◌, subst, arith, Option, Some, None}
use Rattle.std.specs.Prelude.{◌&&◌, slice_get, if◌then◌else◌, nat_le}
use Rattle.std.proofs.lemmas.Bool.{and_parts, and_from, leb-true, cases_lt}
use Rattle.x12_bytes.specs.declared.delims.Delims.{Delims}
use Rattle.x12_segs.specs.Words.{occurrences, components}
use Rattle.hub_kinds.specs.declared.codes.ElementCode.{ElementCode}
use Rattle.hub_kinds.specs.declared.codes.ElementCode.TheVariants as ik403
use Rattle.guide_tree.specs.declared.element.SimpleRow.{SimpleRow}
use Rattle.guide_tree.specs.declared.element.CompositeRow.{CompositeRow}
use Rattle.guide_tree.specs.declared.element.Component.{Component}
use Rattle.guide_tree.specs.declared.element.Component.TheVariants as component
use Rattle.guide_tree.specs.declared.element.Element.{Element}
use Rattle.guide_tree.specs.declared.element.Element.TheVariants as element
use Rattle.elem_rules.specs.Divided.{is_empty, has_more, occurrence_in, component_in}
use Rattle.elem_rules.specs.Rows.{Usage, simple_usage, composite_usage, use_of_element}
use Rattle.elem_rules.specs.ElementFaults.{missing_fault, component_fault, whole_fault, Wrong, wrong_at, IsWrong}
use Rattle.guide_widening.specs.Rows.{are_wider_components, fits_empty, is_optional, is_wider_component, is_wider_requirement, is_wider_row}
use Rattle.guide_widening.specs.Rows.{fits_no_component, is_wider_composite, is_wider_element}
use Rattle.widening_law.proofs.Elements.{IsRight, right_from, right_to, component_free, left_out, missing_free, optional_free}
use Rattle.widening_law.proofs.Elements.{if_free, when_empty, must_be_empty, row_needs, none_or_some}
use Rattle.widening_law.proofs.Empties.{empty_components, empty_occurrence, empty_component, empty_occurrences, none_more}
use Rattle.widening_law.proofs.Empties.{past_empty, fewer_none}
use Rattle.widening_law.proofs.Rows.{Held, component_held, components_more}

-- a usage with no fewer repetitions and components that are at most as strict
pub record IsWiderUsage (old new : Usage) : Type 0 where
  pub often : old.repeat ≤ new.repeat
  pub each : are_wider_components old.components new.components ≡ true

module _ (delims : Delims) (old new : Usage) (text : List ℕ) (wider : IsWiderUsage old new) (right : IsRight delims old text) where
  -- after the old number of occurrences there are none
  beyond : (n : ℕ) → old.repeat < n → is_empty delims (occurrence_in delims text n) ≡ true
  beyond n l = past_empty delims old.repeat (n - 1) (occurrences delims text) right.few (omega arith)

  narrow_by : (n : ℕ) → 1 ≤ n → (n ≤ old.repeat) ⊎ (old.repeat < n)
      → has_more delims (length new.components) (components delims (occurrence_in delims text n)) ≡ false
  narrow_by n from (inl within) =
      fewer_none delims (length old.components) (length new.components) (components delims (occurrence_in delims text n))
      (right.narrow n from within) (components_more old.components new.components wider.each)
  narrow_by n from (inr past) =
      none_more delims (length new.components) (components delims (occurrence_in delims text n))
      (empty_components delims (occurrence_in delims text n) (beyond n past))

  part_by : (n m : ℕ) (row : Component) → 1 ≤ n → n ≤ old.repeat → is_empty delims (occurrence_in delims text n) ≡ false
      → Held is_wider_component fits_no_component old.components m row
      → component_fault delims row (component_in delims (occurrence_in delims text n) (suc m)) ≡ None
  part_by n m row from within filled (inl b) =
      component_free delims b.before row (component_in delims (occurrence_in delims text n) (suc m)) b.is
      (right.parts n m b.before from within filled b.there)
  part_by n m row from within filled (inr p) =
      left_out delims row (component_in delims (occurrence_in delims text n) (suc m)) p.1
      (past_empty delims (length old.components) (suc m - 1) (components delims (occurrence_in delims text n))
      (right.narrow n from within) (let l = p.0 in omega arith))

  parts_by : (n m : ℕ) (row : Component) → 1 ≤ n → (n ≤ old.repeat) ⊎ (old.repeat < n)
      → is_empty delims (occurrence_in delims text n) ≡ false → slice_get new.components m ≡ Some row
      → component_fault delims row (component_in delims (occurrence_in delims text n) (suc m)) ≡ None
  parts_by n m row from (inl within) filled there =
      part_by n m row from within filled (component_held old.components new.components m row wider.each there)
  parts_by n m row from (inr past) filled there = let empty = beyond n past in cc

  within_or_past : (n : ℕ) → (n ≤ old.repeat) ⊎ (old.repeat < n)
  within_or_past n = elim (cases_lt old.repeat n) [ inl l ↦ inr l | inr l ↦ inl l ]

  pub wider_right : IsRight delims new text
  wider_right = record {
    few = fewer_none delims old.repeat new.repeat (occurrences delims text) right.few wider.often;
    narrow = λ n from to. narrow_by n from (within_or_past n);
    parts = λ n m row from to filled there. parts_by n m row from (within_or_past n) filled there;
  }

module _ (delims : Delims) where
  -- an element in which nothing is wrong
  abbrev pub IsElementRight : Element → List ℕ → Type 0
  IsElementRight row text = (w : Wrong) → IsWrong delims row text w → ⊥

  -- the whole of it
  whole_from : (row : Element) (text : List ℕ) → IsElementRight row text → whole_fault delims row text ≡ None
  whole_from row text none =
      none_or_some delims (whole_fault delims row text) (λ code fault. none _ (inl (record { code = code; fault = fault; is = refl })))

  simple_to : (row : SimpleRow) (repeat : ℕ) (text : List ℕ) → whole_fault delims (element.Simple row repeat) text ≡ None
      → IsRight delims (simple_usage row repeat) text → IsElementRight (element.Simple row repeat) text
  simple_to row repeat text whole right w (inl h) = let f = h.fault in cc
  simple_to row repeat text whole right w (inr h) = right_to delims (simple_usage row repeat) text right w h

  composite_to : (row : CompositeRow) (text : List ℕ) → whole_fault delims (element.Composite row) text ≡ None
      → IsRight delims (composite_usage row) text → IsElementRight (element.Composite row) text
  composite_to row text whole right w (inl h) = let f = h.fault in cc
  composite_to row text whole right w (inr h) = right_to delims (composite_usage row) text right w h

  -- nothing is wrong in what is empty but what is missing
  empty_right : (usage : Usage) (text : List ℕ) → is_empty delims text ≡ true → IsRight delims usage text
  empty_right usage text empty = record {
    few = none_more delims usage.repeat (occurrences delims text) (empty_occurrences delims text empty);
    narrow = λ n from to. none_more delims (length usage.components) (components delims (occurrence_in delims text n))
        (empty_components delims (occurrence_in delims text n) (empty_occurrence delims text n empty));
    parts = λ n m row from to filled there. let none = empty_occurrence delims text n empty in cc;
  }

  pub empty_free : (row : Element) (text : List ℕ) → fits_empty row ≡ true → is_empty delims text ≡ true → IsElementRight row text
  empty_free (element.NotUsed reference) text h empty w (inl x) =
      let f = x.fault in
      let n = when_empty (is_empty delims text) None (Some ik403.NotUsedPresent) empty refl in
      cc
  empty_free (element.NotUsed reference) text h empty w (inr x) = absurd x
  empty_free (element.Simple row repeat) text h empty w x =
      simple_to row repeat text
      (when_empty (is_empty delims text) (missing_fault row.requirement) None empty (optional_free row.requirement h))
      (empty_right (simple_usage row repeat) text empty) w x
  empty_free (element.Composite row) text h empty w x =
      composite_to row text
      (when_empty (is_empty delims text) (missing_fault row.requirement) None empty (optional_free row.requirement h))
      (empty_right (composite_usage row) text empty) w x

  one_row : (old new : SimpleRow) → is_wider_row old new ≡ true
      → are_wider_components (component.Simple old ∷ []) (component.Simple new ∷ []) ≡ true
  one_row old new h = and_from (is_wider_row old new) true h refl

  pub element_free : (old new : Element) (text : List ℕ) → is_wider_element old new ≡ true → IsElementRight old text
      → IsElementRight new text
  element_free (element.NotUsed reference) new text h right =
      empty_free new text h (must_be_empty (is_empty delims text) ik403.NotUsedPresent (whole_from (element.NotUsed reference) text right))
  element_free (element.Simple old repeat) (element.NotUsed reference) text h right = cc
  element_free (element.Simple old repeat) (element.Composite new) text h right = cc
  element_free (element.Composite old) (element.NotUsed reference) text h right = cc
  element_free (element.Composite old) (element.Simple new often) text h right = cc
  element_free (element.Simple old repeat) (element.Simple new often) text h right =
      let p = and_parts (nat_le repeat often) (is_wider_row old new) h in
      let whole = if_free (is_empty delims text) (missing_fault old.requirement) None (missing_fault new.requirement) None
      (missing_free old.requirement new.requirement (row_needs old new p.1)) (λ e. e)
      (whole_from (element.Simple old repeat) text right) in
      let before = right_from delims (simple_usage old repeat) text (λ w k. right w (inr k)) in
      simple_to new often text whole
      (wider_right delims (simple_usage old repeat) (simple_usage new often) text
      (record { often = leb-true repeat often p.0; each = one_row old new p.1 }) before)
  element_free (element.Composite old) (element.Composite new) text h right =
      let p = and_parts _ (are_wider_components old.components new.components) h in
      let q = and_parts (is_wider_requirement old.requirement new.requirement) (nat_le old.repeat new.repeat) p.0 in
      let whole = if_free (is_empty delims text) (missing_fault old.requirement) None (missing_fault new.requirement) None
      (missing_free old.requirement new.requirement q.0) (λ e. e) (whole_from (element.Composite old) text right) in
      let before = right_from delims (composite_usage old) text (λ w k. right w (inr k)) in
      composite_to new text whole
      (wider_right delims (composite_usage old) (composite_usage new) text
      (record { often = leb-true old.repeat new.repeat q.1; each = p.1 }) before)
