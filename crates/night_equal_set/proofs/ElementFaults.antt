-- The element faults of a segment, row by row and condition by condition.
use Rattle.std.proofs.Common.{◌≡◌, ℕ, zero, suc, ◌+◌, ◌-◌, ◌≤◌, List, [], ◌∷◌, ◌++◌, map, length, drop, Bool, true, false, ◌&&◌, not}
use Rattle.std.proofs.Common.{Option, Some, None, refl, sym, ap, ◌∙◌, subst, arith}
use Rattle.std.specs.Prelude.{if◌then◌else◌, slice_get, flat_map, IsTrue}
use mathlib.Core.Logic.{inl, inr}
use Rattle.std.specs.List.{list_all, Contains, All}
use Rattle.std.proofs.lemmas.Option.{none-some, slice_get_past}
use Rattle.std.specs.Option.{option_map_or}
use Rattle.std.proofs.Math.Seq.{take-length}
use Rattle.std.proofs.lemmas.List.Elements.{Contains-append_left, Contains-append_right, Contains-append_cases, All-head, All-tail}
use Rattle.x12_bytes.specs.declared.delims.Delims.{Delims}
use Rattle.guide_tree.specs.declared.element.Component.{Component}
use Rattle.guide_tree.specs.declared.element.Component.TheVariants as part
use Rattle.guide_tree.specs.declared.element.Element.{Element}
use Rattle.guide_tree.specs.declared.element.Element.TheVariants as row
use Rattle.guide_tree.specs.declared.slot.Slot.{Slot}
use Rattle.guide_tree.specs.Words.{is_condition_of}
use Rattle.hub_kinds.specs.declared.codes.ElementCode.TheVariants as ik403
use Rattle.hub_kinds.specs.declared.fault.ElemFault.{ElemFault}
use Rattle.elem_rules.specs.Rows.{nth, element_reference, reference_in, simple_usage, composite_usage}
use Rattle.elem_rules.specs.Rows as old_rows
use Rattle.elem_rules.specs.ElementFaults as old
use Rattle.elem_rules.specs.Found as found
use Rattle.elem_rules.specs.Conditions as old_conditions
use Rattle.guide_tree.specs.declared.slot.Condition.{Condition}
use Rattle.guide_tree.specs.declared.slot.Relation.{Relation}
use Rattle.guide_tree.specs.declared.slot.Relation.TheVariants as relations
use Rattle.night_definition.specs.Segments.{Elements, element}
use Rattle.night_definition.specs.Elements as room
use Rattle.night_definition.specs.Elements.{wrong, is_filled, numbered, has_more, components}
use Rattle.night_equal_set.proofs.Parts.{is_inner, up_to_same, tiled}
use Rattle.night_equal_set.proofs.Occurrences.{used_is}
use Rattle.night_equal_set.proofs.Conditions.{broken}
use Rattle.night_equal_set.specs.ElementFaults.{ElementFaultsAreOne}
use Rattle.elem_rules.proofs.ForAbove.{found_is, is_found, simple_shows, composite_shows}
use Rattle.elem_rules.proofs.ForAbove.{text_of_row, positions_have_rows, broken_same, broken_within}

reference_of_component : (c : Component) → room.component_reference c ≡ old_rows.component_reference c
reference_of_component (part.NotUsed reference) = refl
reference_of_component (part.Simple r) = refl

reference_of_part : (o : Option Component) (reference : List ℕ)
    → option_map_or room.component_reference o reference ≡ option_map_or old_rows.component_reference o reference
reference_of_part None reference = refl
reference_of_part (Some c) reference = reference_of_component c

reference_of_row : (r : Element) (c : ℕ) → room.reference_of r c ≡ reference_in r c
reference_of_row (row.NotUsed reference) zero = refl
reference_of_row (row.NotUsed reference) (suc c) = refl
reference_of_row (row.Simple r repeat) zero = refl
reference_of_row (row.Simple r repeat) (suc c) = refl
reference_of_row (row.Composite r) zero = refl
reference_of_row (row.Composite r) (suc c) = reference_of_part (slice_get r.components c) r.reference

reference_there : (slot : Slot) (k c : ℕ) (r : Element) → nth slot.elements k ≡ Some r → room.reference_at slot k c ≡ reference_in r c
reference_there slot zero c r there = absurd (none-some r there)
reference_there slot (suc k) c r there =
    ap (λ j. option_map_or (λ r. room.reference_of r c) (slice_get slot.elements j) []) (before k)
    ∙ ap (λ o. option_map_or (λ r. room.reference_of r c) o []) there ∙ reference_of_row r c
  where
    before : (k : ℕ) → suc k - 1 ≡ k
    before k = omega arith

row_is : (d : Delims) (slot : Slot) (k : ℕ) (r : Element) (text : List ℕ) → nth slot.elements k ≡ Some r
    → map (room.fault_at slot k) (room.wrongs d r text) ≡ found.element_found d k r text
row_is d slot k (row.NotUsed reference) text there = by (list_all (is_inner d) text)
  where
    by : (e : Bool) → map (room.fault_at slot k) (if not e then wrong 0 0 ik403.NotUsedPresent text ∷ [] else [])
        ≡ found.reported k 0 0 reference text (if e then None else Some ik403.NotUsedPresent) ++ []
    by true = refl
    by false = ap (λ t. found.fault k 0 0 ik403.NotUsedPresent t text ∷ []) (reference_there slot k 0 (row.NotUsed reference) there)
row_is d slot k (row.Simple r repeat) text there =
    let shows = simple_shows r repeat in
    used_is d slot k (simple_usage r repeat) (reference_there slot k 0 (row.Simple r repeat) there ∙ shows.reference)
    (reference_there slot k (length (simple_usage r repeat).components + 1) (row.Simple r repeat) there ∙ shows.past)
    (λ m c is. reference_there slot k 0 (row.Simple r repeat) there ∙ shows.within m c is) text
row_is d slot k (row.Composite r) text there =
    let shows = composite_shows r in
    used_is d slot k (composite_usage r) (reference_there slot k 0 (row.Composite r) there ∙ shows.reference)
    (reference_there slot k (length r.components + 1) (row.Composite r) there ∙ shows.past)
    (λ m c is. reference_there slot k m (row.Composite r) there ∙ shows.within m c is) text

rows_are : (d : Delims) (slot : Slot) (s : Elements)
    → flat_map (λ x. map (room.fault_at slot x.0) (room.wrongs d x.1 (element x.0 s))) (numbered 1 slot.elements)
    ≡ found.rows_found d slot.elements (found.texts_of slot s)
rows_are d slot s =
    ap (λ xs. flat_map (λ (x : ℕ × Element). map (room.fault_at slot x.0) (room.wrongs d x.1 (element x.0 s))) (numbered 1 xs))
    (sym (take-length slot.elements))
    ∙ tiled (λ k r. map (room.fault_at slot k) (room.wrongs d r (element k s))) 0 (length slot.elements) slot.elements
    ∙ up_to_same _ _ (length slot.elements) (λ k from to. one k (nth slot.elements k) from to refl)
  where
    zero_on : (n : ℕ) → 0 + n ≡ n
    zero_on n = omega arith

    one : (k : ℕ) (o : Option Element) → 1 ≤ k → k ≤ length slot.elements → nth slot.elements k ≡ o
        → option_map_or (λ r. map (room.fault_at slot (0 + k)) (room.wrongs d r (element (0 + k) s))) o []
        ≡ option_map_or (λ r. found.element_found d k r (found.text_at (found.texts_of slot s) k)) o []
    one k None from to is = refl
    one k (Some r) from to is =
        ap (λ j. map (room.fault_at slot j) (room.wrongs d r (element j s))) (zero_on k)
        ∙ row_is d slot k r (element k s) is
        ∙ ap (λ t. found.element_found d k r t) (sym (text_of_row slot s k from to))

condition_shown : (slot : Slot) (s : Elements) (relation : Relation) (p : ℕ) → 1 ≤ p → p ≤ length slot.elements
    → room.fault_at slot p (room.condition_wrong relation (element p s)) ∷ []
    ≡ found.broken_found slot.elements (found.texts_of slot s) (old_conditions.condition_code relation) p
condition_shown slot s relation p from to =
    by relation
    ∙ ap (λ t. found.fault p 0 0 (old_conditions.condition_code relation) t
    (found.condition_copy (old_conditions.condition_code relation) (element p s)) ∷ [])
    (reference_here p from)
    ∙ ap (λ t. found.fault p 0 0 (old_conditions.condition_code relation) (old_rows.reference_at slot.elements p)
    (found.condition_copy (old_conditions.condition_code relation) t) ∷ []) (sym (text_of_row slot s p from to))
  where
    by : (relation : Relation) → room.fault_at slot p (room.condition_wrong relation (element p s)) ∷ []
        ≡ found.fault p 0 0 (old_conditions.condition_code relation) (room.reference_at slot p 0)
        (found.condition_copy (old_conditions.condition_code relation) (element p s)) ∷ []
    by relations.Paired = refl
    by relations.Required = refl
    by relations.Exclusion = refl
    by relations.Conditional = refl
    by relations.ListConditional = refl

    row_reference : (r : Element) → room.reference_of r 0 ≡ element_reference r
    row_reference (row.NotUsed reference) = refl
    row_reference (row.Simple r repeat) = refl
    row_reference (row.Composite r) = refl

    by_row : (o : Option Element) → option_map_or (λ r. room.reference_of r 0) o [] ≡ option_map_or element_reference o []
    by_row None = refl
    by_row (Some r) = row_reference r

    before : (k : ℕ) → suc k - 1 ≡ k
    before k = omega arith

    reference_here : (p : ℕ) → 1 ≤ p → room.reference_at slot p 0 ≡ old_rows.reference_at slot.elements p
    reference_here zero from = absurd (omega arith)
    reference_here (suc k) from =
        ap (λ j. option_map_or (λ r. room.reference_of r 0) (slice_get slot.elements j) []) (before k)
        ∙ by_row (slice_get slot.elements k)

map_as_flat : {A B : Type 0} (P : A → Type 0) (f : A → B) (g : A → List B) (xs : List A) → ((x : A) → P x → f x ∷ [] ≡ g x) → All P xs
    → map f xs ≡ flat_map g xs
map_as_flat P f g [] same all = refl
map_as_flat P f g (x ∷ xs) same all =
    ap (λ l. l ++ map f xs) (same x (All-head P x xs all)) ∙ ap (λ l. g x ++ l) (map_as_flat P f g xs same (All-tail P x xs all))

condition_is : (d : Delims) (slot : Slot) (s : Elements) (c : Condition) → IsTrue (is_condition_of slot c)
    → map (λ p. room.fault_at slot p (room.condition_wrong c.relation (element p s)))
    (room.broken_at (λ p. is_filled d (element p s)) c.relation c.positions)
    ≡ found.condition_found d slot.elements (found.texts_of slot s) c
condition_is d slot s c holds =
    let show : ℕ → ElemFault = λ p. room.fault_at slot p (room.condition_wrong c.relation (element p s)) in
    ap (map show) (broken (λ p. is_filled d (element p s)) c.relation c.positions)
    ∙ map_as_flat (λ p. (1 ≤ p) × (p ≤ length slot.elements)) show
    (found.broken_found slot.elements (found.texts_of slot s) (old_conditions.condition_code c.relation))
    (old_conditions.broken_at (old_conditions.is_present d s) c.relation c.positions)
    (λ p within. condition_shown slot s c.relation p within.0 within.1)
    (broken_within (old_conditions.is_present d s) c.relation (λ p. (1 ≤ p) × (p ≤ length slot.elements)) c.positions
    (positions_have_rows slot c holds))
    ∙ ap (flat_map (found.broken_found slot.elements (found.texts_of slot s) (old_conditions.condition_code c.relation)))
    (sym (broken_same d s slot c holds))

conditions_are : (d : Delims) (slot : Slot) (s : Elements) (cs : List Condition) → list_all (is_condition_of slot) cs ≡ true
    → flat_map (λ (c : Condition). map (λ p. room.fault_at slot p (room.condition_wrong c.relation (element p s)))
    (room.broken_at (λ p. is_filled d (element p s)) c.relation c.positions)) cs
    ≡ flat_map (found.condition_found d slot.elements (found.texts_of slot s)) cs
conditions_are d slot s [] hold = refl
conditions_are d slot s (c ∷ cs) hold =
    ap (λ l. l ++ flat_map (λ (c : Condition). map (λ p. room.fault_at slot p (room.condition_wrong c.relation (element p s)))
    (room.broken_at (λ p. is_filled d (element p s)) c.relation c.positions)) cs)
    (condition_is d slot s c (first (is_condition_of slot c) _ hold))
    ∙ ap (λ l. found.condition_found d slot.elements (found.texts_of slot s) c ++ l)
    (conditions_are d slot s cs (second (is_condition_of slot c) _ hold))
  where
    first : (a b : Bool) → (a && b) ≡ true → a ≡ true
    first a b is = grind arith

    second : (a b : Bool) → (a && b) ≡ true → b ≡ true
    second a b is = grind arith

extra_is : (d : Delims) (slot : Slot) (s : Elements)
    → (if has_more d (length slot.elements) (drop 1 s)
    then room.fault_at slot (length slot.elements + 1) (wrong 0 0 ik403.TooManyElements (element (length slot.elements + 1) s)) ∷ []
    else [])
    ≡ found.extra_found d slot s
extra_is d slot s =
    ap (λ t. if has_more d (length slot.elements) (drop 1 s)
    then found.fault (length slot.elements + 1) 0 0 ik403.TooManyElements t (element (length slot.elements + 1) s) ∷ [] else [])
    (ap (λ o. option_map_or (λ r. room.reference_of r 0) o [])
    (ap (slice_get slot.elements) (on (length slot.elements)) ∙ slice_get_past slot.elements (length slot.elements) (omega arith)))
  where
    on : (n : ℕ) → n + 1 - 1 ≡ n
    on n = omega arith

pub element_faults : ElementFaultsAreOne
element_faults d slot s f sound = (to, from)
  where
    rows : List ElemFault
    rows = found.rows_found d slot.elements (found.texts_of slot s)

    extra : List ElemFault
    extra = found.extra_found d slot s

    conditions : List ElemFault
    conditions = found.conditions_found d slot.elements slot.conditions (found.texts_of slot s)

    list_is : room.element_faults d slot s ≡ rows ++ conditions ++ extra
    list_is =
        ap (λ l. l ++ flat_map (λ (c : Condition). map (λ p. room.fault_at slot p (room.condition_wrong c.relation (element p s)))
        (room.broken_at (λ p. is_filled d (element p s)) c.relation c.positions)) slot.conditions
        ++ (if has_more d (length slot.elements) (drop 1 s)
        then room.fault_at slot (length slot.elements + 1) (wrong 0 0 ik403.TooManyElements (element (length slot.elements + 1) s)) ∷
        [] else [])) (rows_are d slot s)
        ∙ ap (λ l. rows ++ l ++ (if has_more d (length slot.elements) (drop 1 s)
        then room.fault_at slot (length slot.elements + 1) (wrong 0 0 ik403.TooManyElements (element (length slot.elements + 1) s)) ∷
        [] else []))
        (conditions_are d slot s slot.conditions sound)
        ∙ ap (λ l. rows ++ conditions ++ l) (extra_is d slot s)

    in_found : Contains (rows ++ conditions ++ extra) f → Contains (rows ++ (extra ++ conditions)) f
    in_found h = elim (Contains-append_cases (rows ++ conditions) extra f h) [
      | inl a ↦ elim (Contains-append_cases rows conditions f a) [
        | inl b ↦ Contains-append_left rows (extra ++ conditions) f b
        | inr b ↦ Contains-append_right rows (extra ++ conditions) f (Contains-append_right extra conditions f b)
      ]
      | inr a ↦ Contains-append_right rows (extra ++ conditions) f (Contains-append_left extra conditions f a)
    ]

    out_found : Contains (rows ++ (extra ++ conditions)) f → Contains (rows ++ conditions ++ extra) f
    out_found h = elim (Contains-append_cases rows (extra ++ conditions) f h) [
      | inl a ↦ Contains-append_left (rows ++ conditions) extra f (Contains-append_left rows conditions f a)
      | inr a ↦ elim (Contains-append_cases extra conditions f a) [
        | inl b ↦ Contains-append_right (rows ++ conditions) extra f b
        | inr b ↦ Contains-append_left (rows ++ conditions) extra f (Contains-append_right rows conditions f b)
      ]
    ]

    to : Contains (room.element_faults d slot s) f → old.IsElementFault d s slot f
    to h = found_is d s slot sound f (in_found (subst (λ l. Contains l f) list_is h))

    from : old.IsElementFault d s slot f → Contains (room.element_faults d slot s) f
    from h = subst (λ l. Contains l f) (sym list_is) (out_found (is_found d s slot sound f h))
