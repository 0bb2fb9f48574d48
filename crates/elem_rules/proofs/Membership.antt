-- The faults that the walk finds are the faults of the segment's elements.
use Rattle.std.proofs.Common.{◌≡◌, ℕ, ◌+◌, ◌≤◌, ◌∙◌, List, [], ◌++◌, length, drop, refl, ap, sym, subst}
use Rattle.std.specs.Prelude.{Some, IsTrue}
use mathlib.Core.Logic.{inl, inr}
use Rattle.std.specs.Option.{option_map_or}
use Rattle.std.specs.List.{Contains, list_all}
use Rattle.std.proofs.lemmas.List.Elements.{All-contains, Contains-append_left, Contains-append_right, Contains-append_cases}
use Rattle.x12_bytes.specs.declared.delims.Delims.{Delims}
use Rattle.guide_tree.specs.declared.element.Element.{Element}
use Rattle.guide_tree.specs.declared.slot.Slot.{Slot}
use Rattle.guide_tree.specs.declared.slot.Relation.{Relation}
use Rattle.guide_tree.specs.declared.slot.Relation.TheVariants as relation
use Rattle.guide_tree.specs.Words.{is_condition_of, Segment, element_at}
use Rattle.hub_kinds.specs.declared.codes.ElementCode.{ElementCode}
use Rattle.hub_kinds.specs.declared.codes.ElementCode.TheVariants as ik403
use Rattle.hub_kinds.specs.declared.fault.ElemFault.{ElemFault}
use Rattle.elem_rules.specs.Divided.{has_more}
use Rattle.elem_rules.specs.Rows.{nth, reference_in, reference_at}
use Rattle.elem_rules.specs.Conditions.{is_present, broken_at, condition_code}
use Rattle.elem_rules.specs.ElementFaults.{Wrong, copy_in, fault_at, IsExtraElement, IsRowFault, IsConditionFault, IsElementFault}
use Rattle.elem_rules.specs.Found.{fault, text_at, texts_of, is_present_in, condition_copy, broken_found, condition_found}
use Rattle.hub_kinds.specs.Words.{element_key_of, IsKeyedBy}
use Rattle.elem_rules.specs.Found.{conditions_found, element_found, rows_found, extra_found, found}
use Rattle.elem_rules.proofs.Members.{no_member, contains_one, one_contains, from_if, in_then, from_up_to, in_up_to, from_flat_map}
use Rattle.elem_rules.proofs.Members.{in_flat_map, from_option, in_option, nth_within, nth_past}
use Rattle.elem_rules.proofs.Wrongs.{shown, element_from, element_to}
use Rattle.elem_rules.proofs.Agreeing.{text_of_row, positions_have_rows, conditions_hold, broken_same, broken_within}
use Rattle.elem_rules.proofs.Keys.{same_place}

module _ (delims : Delims) (s : Segment) (slot : Slot) where
  -- what is wrong in an element with a row is shown with that row's numbers
  row_shown : (k : ℕ) (row : Element) (w : Wrong) → nth slot.elements k ≡ Some row
      → shown delims k row (element_at s k) w ≡ fault_at delims s slot k w.component w.repetition w.code
  row_shown k row w there = ap (λ o. fault k w.component w.repetition w.code (option_map_or (λ row. reference_in row w.component) o [])
      (copy_in delims (element_at s k) w.component w.repetition w.code)) (sym there)

  abbrev one_row : List (List ℕ) → ℕ → List ElemFault
  one_row texts k = option_map_or (λ row. element_found delims k row (text_at texts k)) (nth slot.elements k) []

  row_from : (f : ElemFault) → Contains (rows_found delims slot.elements (texts_of slot s)) f → IsRowFault delims s slot f
  row_from f h =
      let a = from_up_to (one_row (texts_of slot s)) (length slot.elements) f h in
      let k = a.0 in
      let b = from_option (λ row. element_found delims k row (text_at (texts_of slot s) k)) (nth slot.elements k) f a.3 in
      let c = element_from delims k b.0 (element_at s k) f
      (subst (λ text. Contains (element_found delims k b.0 text) f) (text_of_row slot s k a.1 a.2) b.2) in
      record { position = k; row = b.0; there = b.1; w = c.0; wrong = c.1; is = c.2 ∙ row_shown k b.0 c.0 b.1 }

  row_to : (f : ElemFault) → IsRowFault delims s slot f → Contains (rows_found delims slot.elements (texts_of slot s)) f
  row_to f h =
      let k = h.position in
      let within = nth_within slot.elements k h.row h.there in
      let a = element_to delims k h.row (element_at s k) h.w h.wrong in
      let b = subst (λ text. Contains (element_found delims k h.row text) (shown delims k h.row (element_at s k) h.w))
      (sym (text_of_row slot s k within.0 within.1)) a in
      let c = in_option (λ row. element_found delims k row (text_at (texts_of slot s) k)) (nth slot.elements k) h.row _ h.there b in
      subst (λ f. Contains (rows_found delims slot.elements (texts_of slot s)) f) (row_shown k h.row h.w h.there ∙ sym h.is)
      (in_up_to (one_row (texts_of slot s)) (length slot.elements) k _ within.0 within.1 c)

  extra_shown : fault (length slot.elements + 1) 0 0 ik403.TooManyElements []
      (element_at s (length slot.elements + 1)) ≡ fault_at delims s slot (length slot.elements + 1) 0 0 ik403.TooManyElements
  extra_shown = ap (λ o. fault (length slot.elements + 1) 0 0 ik403.TooManyElements (option_map_or (λ row. reference_in row 0) o [])
      (element_at s (length slot.elements + 1))) (sym (nth_past slot.elements))

  extra_from : (f : ElemFault) → Contains (extra_found delims slot s) f → IsExtraElement delims s slot f
  extra_from f h = elim (from_if (has_more delims (length slot.elements) (drop 1 s)) _ _ f h) [
    | inl p ↦ record { more = p.0; is = contains_one _ f p.1 ∙ extra_shown }
    | inr p ↦ absurd (no_member f p.1)
  ]

  extra_to : (f : ElemFault) → IsExtraElement delims s slot f → Contains (extra_found delims slot s) f
  extra_to f h = subst (λ f. Contains (extra_found delims slot s) f) (extra_shown ∙ sym h.is)
      (in_then (has_more delims (length slot.elements) (drop 1 s)) _ _ _ h.more (one_contains _))

  copy_same : (r : Relation) (text : List ℕ) → condition_copy (condition_code r) text ≡ copy_in delims text 0 0 (condition_code r)
  copy_same relation.Paired text = refl
  copy_same relation.Required text = refl
  copy_same relation.Exclusion text = refl
  copy_same relation.Conditional text = refl
  copy_same relation.ListConditional text = refl

  broken_shown : (r : Relation) (p : ℕ) → 1 ≤ p → p ≤ length slot.elements
      → fault p 0 0 (condition_code r) (reference_at slot.elements p)
      (condition_copy (condition_code r) (text_at (texts_of slot s) p)) ≡ fault_at delims s slot p 0 0 (condition_code r)
  broken_shown r p from to = ap (λ copy. fault p 0 0 (condition_code r) (reference_at slot.elements p) copy)
      (ap (condition_copy (condition_code r)) (text_of_row slot s p from to) ∙ copy_same r (element_at s p))

  at_place : (f : ElemFault) (e c r : ℕ) (code : ElementCode) → f ≡ fault_at delims s slot e c r code
      → f ≡ fault_at delims s slot f.element f.component f.repetition f.code
  at_place f e c r code is = subst (λ g. g ≡ fault_at delims s slot g.element g.component g.repetition g.code) (sym is) refl

  module _ (sound : IsTrue (list_all (is_condition_of slot) slot.conditions)) where
    condition_from : (f : ElemFault) → Contains (conditions_found delims slot.elements slot.conditions (texts_of slot s)) f
        → IsConditionFault delims s slot f
    condition_from f h =
        let a = from_flat_map (condition_found delims slot.elements (texts_of slot s)) slot.conditions f h in
        let c = a.0 in
        let holds = All-contains (λ c. IsTrue (is_condition_of slot c)) slot.conditions c (conditions_hold slot sound) a.1 in
        let b = from_flat_map (broken_found slot.elements (texts_of slot s) (condition_code c.relation))
        (broken_at (is_present_in delims (texts_of slot s)) c.relation c.positions) f a.2 in
        let p = b.0 in
        let broken = subst (λ l. Contains l p) (broken_same delims s slot c holds) b.1 in
        let within = All-contains (λ p. (1 ≤ p) × (p ≤ length slot.elements)) _ p
        (broken_within (is_present delims s) c.relation (λ p. (1 ≤ p) × (p ≤ length slot.elements)) c.positions
        (positions_have_rows slot c holds)) broken in
        record {
          condition = c;
          listed = a.1;
          position = p;
          broken = broken;
          is = contains_one _ f b.2
              ∙ broken_shown c.relation p within.0 within.1;
        }

    condition_to : (f : ElemFault) → IsConditionFault delims s slot f
        → Contains (conditions_found delims slot.elements slot.conditions (texts_of slot s)) f
    condition_to f h =
        let c = h.condition in
        let p = h.position in
        let holds = All-contains (λ c. IsTrue (is_condition_of slot c)) slot.conditions c (conditions_hold slot sound) h.listed in
        let within = All-contains (λ p. (1 ≤ p) × (p ≤ length slot.elements)) _ p
        (broken_within (is_present delims s) c.relation (λ p. (1 ≤ p) × (p ≤ length slot.elements)) c.positions
        (positions_have_rows slot c holds)) h.broken in
        let at = subst (λ l. Contains l p) (sym (broken_same delims s slot c holds)) h.broken in
        let one = in_flat_map (broken_found slot.elements (texts_of slot s) (condition_code c.relation))
        (broken_at (is_present_in delims (texts_of slot s)) c.relation c.positions) p _ at (one_contains _) in
        subst (λ f. Contains (conditions_found delims slot.elements slot.conditions (texts_of slot s)) f)
        (broken_shown c.relation p within.0 within.1 ∙ sym h.is)
        (in_flat_map (condition_found delims slot.elements (texts_of slot s)) slot.conditions c _ h.listed one)

    pub found_is : (f : ElemFault) → Contains (found delims s slot) f → IsElementFault delims s slot f
    found_is f h = elim (Contains-append_cases (rows_found delims slot.elements (texts_of slot s)) _ f h) [
      | inl a ↦ inr (inl (row_from f a))
      | inr r ↦ elim (Contains-append_cases (extra_found delims slot s) _ f r) [
        | inl a ↦ inl (extra_from f a)
        | inr a ↦ inr (inr (condition_from f a))
      ]
    ]

    pub is_found : (f : ElemFault) → IsElementFault delims s slot f → Contains (found delims s slot) f
    is_found f h =
        let rows = rows_found delims slot.elements (texts_of slot s) in
        let extra = extra_found delims slot s in
        let conditions = conditions_found delims slot.elements slot.conditions (texts_of slot s) in
        elim h [
          | inl a ↦ Contains-append_right rows (extra ++ conditions) f (Contains-append_left extra conditions f (extra_to f a))
          | inr r ↦ elim r [
            | inl a ↦ Contains-append_left rows (extra ++ conditions) f (row_to f a)
            | inr a ↦ Contains-append_right rows (extra ++ conditions) f (Contains-append_right extra conditions f (condition_to f a))
          ]
        ]

    -- a fault is what is shown at its own place
    stands : (f : ElemFault) → IsElementFault delims s slot f → f ≡ fault_at delims s slot f.element f.component f.repetition f.code
    stands f h = elim h [
      | inl a ↦ at_place f _ _ _ _ a.is
      | inr r ↦ elim r [ inl a ↦ at_place f _ _ _ _ a.is | inr a ↦ at_place f _ _ _ _ a.is ]
    ]

    pub keyed : IsKeyedBy element_key_of (found delims s slot)
    keyed f g a b e =
        let p = same_place f g e in
        stands f (found_is f a)
        ∙ ap (λ n. fault_at delims s slot n f.component f.repetition f.code) p.0
        ∙ ap (λ n. fault_at delims s slot g.element n f.repetition f.code) p.1
        ∙ ap (λ n. fault_at delims s slot g.element g.component n f.code) p.2
        ∙ ap (λ c. fault_at delims s slot g.element g.component g.repetition c) p.3
        ∙ sym (stands g (found_is g b))
