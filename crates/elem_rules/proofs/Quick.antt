-- Where a quick look finds a segment clean, the walk finds nothing.
use Rattle.std.proofs.Common.{◌≡◌, ℕ, zero, suc, ◌+◌, ◌-◌, ◌<◌, ◌≤◌, ◌∙◌, List, [], ◌∷◌, ◌++◌, Bool, true, false, length, get_or, take}
use Rattle.std.proofs.Common.{drop, refl, ap, sym, subst, arith}
use Rattle.std.specs.Prelude.{Option, Some, None, is_none, IsTrue, ◌&&◌, ◌||◌, not, nat_le, if◌then◌else◌}
use Rattle.std.specs.Option.{option_map_or}
use Rattle.std.specs.List.{All, Contains, list_any, list_all, filter, flat_map}
use Rattle.std.proofs.lemmas.Bool.{leb-true}
use Rattle.x12_bytes.specs.declared.delims.Delims.{Delims}
use Rattle.x12_segs.specs.Words.{occurrences, components}
use Rattle.guide_tree.specs.Words.{is_element_bounded, is_row_bounded, is_component_bounded, is_condition_of, Segment, element_at}
use Rattle.guide_tree.specs.declared.element.Requirement.{Requirement}
use Rattle.guide_tree.specs.declared.element.Requirement.TheVariants.{Mandatory, Optional}
use Rattle.guide_tree.specs.declared.element.SimpleRow.{SimpleRow}
use Rattle.guide_tree.specs.declared.element.Component.{Component}
use Rattle.guide_tree.specs.declared.element.Component.TheVariants as component
use Rattle.guide_tree.specs.declared.element.Element.{Element}
use Rattle.guide_tree.specs.declared.element.Element.TheVariants as element
use Rattle.guide_tree.specs.declared.slot.Relation.{Relation}
use Rattle.guide_tree.specs.declared.slot.Relation.TheVariants as relation
use Rattle.hub_kinds.specs.declared.codes.ElementCode.TheVariants as ik403
use Rattle.hub_kinds.specs.declared.fault.ElemFault.{ElemFault}
use Rattle.elem_rules.specs.Divided.{is_empty, is_filled, has_more, occurrence_in, component_in}
use Rattle.elem_rules.specs.Rows.{Usage, simple_usage, composite_usage, shown_repetition, nth}
use Rattle.elem_rules.specs.ElementFaults.{missing_fault, component_fault}
use Rattle.elem_rules.specs.Conditions.{absent, broken_at}
use Rattle.elem_rules.specs.Values.{value_fault}
use Rattle.elem_rules.specs.Found.{up_to, fault, reported, components_found, occurrence_found, occurrences_found, usage_found}
use Rattle.elem_rules.specs.Found.{element_found}
use Rattle.std.specs.Prelude.{◌==◌, nat_lt}
use Rattle.std.specs.Int.{bit_at}
use Rattle.std.proofs.lemmas.Option.{none-some, same_Some}
use Rattle.elem_rules.specs.Conditions.{condition_code}
use Rattle.std.proofs.lemmas.Nat.Bits.{bit_at-zero, bit_at_set_same, bit_at_set_other}
use Rattle.std.proofs.lemmas.Bool.{cases_eq, cases_Bool, lt-ltb, ltb-true}
use mathlib.Core.Logic.{inl, inr}
use Rattle.std.specs.Int.{w64}
use Rattle.guide_tree.specs.declared.slot.Slot.{Slot}
use Rattle.guide_tree.specs.declared.slot.Condition.{Condition}
use Rattle.elem_rules.specs.ElementFaults.{IsElementFault}
use Rattle.elem_rules.specs.Found.{text_at, texts_of, rows_found, extra_found, condition_found, conditions_found, broken_found}
use Rattle.elem_rules.specs.Found.{is_present_in, found}
use Rattle.elem_rules.proofs.Members.{no_member}
use Rattle.elem_rules.proofs.Membership.{is_found}
use Rattle.elem_rules.proofs.Agreeing.{text_of_row, broken_agrees, positions_have_rows, conditions_hold}
use Rattle.std.proofs.lemmas.List.Elements.{All-weaker, All-head, All-tail, All-nil, All-cons}
use Rattle.elem_rules.specs.Clean.{is_set, marked, bits_to, has_bytes, is_optional, fits_empty, fits_value, fits, holds}
use Rattle.moment.proofs.ForAbove.{both}
use Rattle.elem_rules.proofs.Plain.{IsPlain, one_component, one_occurrence, filled_plain}

pub drop_nil : {A : Type 0} (n : ℕ) (xs : List A) → xs ≡ [] → drop n xs ≡ []
drop_nil zero xs h = h
drop_nil (suc n) [] h = refl
drop_nil (suc n) (x ∷ xs) h = cc

pub none_from : {A : Type 0} (o : Option A) → is_none o ≡ true → o ≡ None
none_from None h = refl
none_from (Some a) h = cc

-- nothing is found where nothing is found of each number
pub up_to_none : {A : Type 0} (f : ℕ → List A) (n : ℕ) → ((k : ℕ) → 1 ≤ k → k ≤ n → f k ≡ []) → up_to f n ≡ []
up_to_none f zero h = refl
up_to_none f (suc n) h =
    ap (λ l. up_to f n ++ l) (h (suc n) (omega arith) (omega arith))
    ∙ ap (λ l. l ++ []) (up_to_none f n (λ k from to. h k from (omega arith)))

-- one text has no more than one part
pub one_more : (delims : Delims) (n : ℕ) (text : List ℕ) → 1 ≤ n → has_more delims n (text ∷ []) ≡ false
one_more delims zero text h = absurd (omega arith)
one_more delims (suc n) text h = ap (list_any (is_filled delims)) (drop_nil n [] refl)

-- the empty text has no further part that isn't empty
empty_more : (delims : Delims) (n : ℕ) → has_more delims n ([] ∷ []) ≡ false
empty_more delims zero = refl
empty_more delims (suc n) = ap (list_any (is_filled delims)) (drop_nil n [] refl)

-- an empty occurrence has no fault
pub nothing_in_empty : (delims : Delims) (e r : ℕ) (reference : List ℕ) (is_composite : Bool) (rows : List Component)
    → occurrence_found delims e r reference is_composite rows [] ≡ []
nothing_in_empty delims e r reference is_composite rows =
    ap (λ b. if b then fault e (length rows + 1) r ik403.TooManyComponents reference (component_in delims [] (length rows + 1)) ∷ []
    else (if is_empty delims [] then [] else components_found delims e r is_composite rows []))
    (ap (λ parts. has_more delims (length rows) parts) (one_component delims [] refl) ∙ empty_more delims (length rows))

-- where an element is its one occurrence, the others are empty
other_occurrence : (delims : Delims) (text : List ℕ) (n : ℕ) → IsPlain delims text → 2 ≤ n → occurrence_in delims text n ≡ []
other_occurrence delims text zero h two = absurd (omega arith)
other_occurrence delims text (suc zero) h two = absurd (omega arith)
other_occurrence delims text (suc (suc n)) h two =
    let next : suc (suc n) - 1 ≡ suc n = omega arith in
    ap (λ i. get_or (occurrences delims text) i []) next ∙ ap (λ parts. get_or parts (suc n) []) (one_occurrence delims text h)

first_occurrence : (delims : Delims) (text : List ℕ) → IsPlain delims text → occurrence_in delims text 1 ≡ text
first_occurrence delims text h = ap (λ parts. get_or parts 0 []) (one_occurrence delims text h)

-- an element with one occurrence without fault has no fault in its occurrences
usage_clean : (delims : Delims) (e : ℕ) (usage : Usage) (text : List ℕ) → 1 ≤ usage.repeat → IsPlain delims text
    → occurrence_found delims e (shown_repetition usage 1) usage.reference usage.is_composite usage.components text ≡ []
    → usage_found delims e text usage ≡ []
usage_clean delims e usage text repeat plain first =
    let few : has_more delims usage.repeat (occurrences delims text) ≡ false =
    ap (λ parts. has_more delims usage.repeat parts) (one_occurrence delims text plain) ∙ one_more delims usage.repeat text repeat in
    let each : (n : ℕ) → 1 ≤ n → n ≤ usage.repeat
    → occurrence_found delims e (shown_repetition usage n) usage.reference usage.is_composite usage.components
    (occurrence_in delims text n) ≡ [] = (λ n from to. one_by_one n from) in
    ap (λ b. (if b then fault e 0 (usage.repeat + 1) ik403.TooManyRepetitions usage.reference
    (occurrence_in delims text (usage.repeat + 1)) ∷ [] else []) ++ occurrences_found delims e usage text) few
    ∙ up_to_none _ usage.repeat each
  where
    one_by_one : (n : ℕ) → 1 ≤ n → occurrence_found delims e (shown_repetition usage n) usage.reference usage.is_composite usage.components
        (occurrence_in delims text n) ≡ []
    one_by_one zero from = absurd (omega arith)
    one_by_one (suc zero) from = ap (λ t. occurrence_found delims e
        (shown_repetition usage 1) usage.reference usage.is_composite usage.components t) (first_occurrence delims text plain) ∙ first
    one_by_one (suc (suc n)) from = ap (λ t. occurrence_found delims e
        (shown_repetition usage (suc (suc n))) usage.reference usage.is_composite usage.components t)
        (other_occurrence delims text (suc (suc n)) plain (omega arith))
        ∙ nothing_in_empty delims e (shown_repetition usage (suc (suc n))) usage.reference usage.is_composite usage.components

-- a value without fault is an occurrence without fault
value_clean : (delims : Delims) (e r : ℕ) (row : SimpleRow) (byte : ℕ) (bytes : List ℕ) → IsPlain delims (byte ∷ bytes)
    → value_fault row (byte ∷ bytes) ≡ None → occurrence_found delims e r row.reference false (component.Simple row ∷ [])
    (byte ∷ bytes) ≡ []
value_clean delims e r row byte bytes plain good =
    let text = byte ∷ bytes in
    let few : has_more delims 1 (components delims text) ≡ false =
    ap (λ parts. has_more delims 1 parts) (one_component delims text plain) in
    let filled : is_empty delims text ≡ false = filled_plain delims byte bytes plain in
    let is : component_in delims text 1 ≡ text = ap (λ parts. get_or parts 0 []) (one_component delims text plain) in
    let fault_of : component_fault delims (component.Simple row) text ≡ None =
    ap (λ b. if b then missing_fault row.requirement else value_fault row text) filled ∙ good in
    ap (λ b. if b then fault e 2 r ik403.TooManyComponents row.reference (component_in delims text 2) ∷ [] else
    (if is_empty delims text then [] else components_found delims e r false (component.Simple row ∷ []) text)) few
    ∙ ap (λ b. if b then [] else components_found delims e r false (component.Simple row ∷ []) text) filled
    ∙ ap (λ t. reported e 0 r row.reference t (component_fault delims (component.Simple row) t)) is
    ∙ ap (λ o. reported e 0 r row.reference text o) fault_of

missing_none : (requirement : Requirement) → is_optional requirement ≡ true → missing_fault requirement ≡ None
missing_none Mandatory h = cc
missing_none Optional h = refl

repeat_from : (b c : Bool) (n : ℕ) → ((nat_le 1 n && b) && c) ≡ true → 1 ≤ n
repeat_from b c n h = leb-true 1 n (both (nat_le 1 n) b (both (nat_le 1 n && b) c h).0).0

repeat_from_three : (a b c : Bool) (n : ℕ) → (((nat_le 1 n && a) && b) && c) ≡ true → 1 ≤ n
repeat_from_three a b c n h = repeat_from a b n (both ((nat_le 1 n && a) && b) c h).0

-- a row that may be empty and is
pub empty_clean : (delims : Delims) (e : ℕ) (row : Element) → IsTrue (is_element_bounded row) → fits_empty row ≡ true
    → element_found delims e row [] ≡ []
empty_clean delims e (element.NotUsed reference) bounded h = refl
empty_clean delims e (element.Simple row repeat) bounded h =
    ap (λ o. reported e 0 0 row.reference [] o ++ usage_found delims e [] (simple_usage row repeat)) (missing_none row.requirement h)
    ∙ usage_clean delims e (simple_usage row repeat) [] (repeat_from (nat_le repeat 999) (is_row_bounded row) repeat bounded) refl
    (nothing_in_empty delims e (shown_repetition (simple_usage row repeat) 1) row.reference false (component.Simple row ∷ []))
empty_clean delims e (element.Composite row) bounded h =
    ap (λ o. reported e 0 0 row.reference [] o ++ usage_found delims e [] (composite_usage row)) (missing_none row.requirement h)
    ∙ usage_clean delims e (composite_usage row) []
    (repeat_from_three (nat_le row.repeat 999) (nat_le (length row.components) 20)
    (list_all is_component_bounded row.components) row.repeat bounded) refl
    (nothing_in_empty delims e (shown_repetition (composite_usage row) 1) row.reference true row.components)

pub value_fits : (delims : Delims) (e : ℕ) (row : Element) (byte : ℕ) (bytes : List ℕ) → IsTrue (is_element_bounded row)
    → IsPlain delims (byte ∷ bytes) → fits_value row (byte ∷ bytes) ≡ true → element_found delims e row (byte ∷ bytes) ≡ []
value_fits delims e (element.NotUsed reference) byte bytes bounded plain h = cc
value_fits delims e (element.Simple row repeat) byte bytes bounded plain h =
    let text = byte ∷ bytes in
    let filled : is_empty delims text ≡ false = filled_plain delims byte bytes plain in
    ap (λ b. reported e 0 0 row.reference text (if b then missing_fault row.requirement else None) ++ usage_found delims e text
    (simple_usage row repeat)) filled
    ∙ usage_clean delims e (simple_usage row repeat) text (repeat_from (nat_le repeat 999) (is_row_bounded row) repeat bounded) plain
    (value_clean delims e (shown_repetition (simple_usage row repeat) 1) row byte bytes plain (none_from (value_fault row text) h))
value_fits delims e (element.Composite row) byte bytes bounded plain h = cc

-- an element that fits its row has no fault
pub fits_clean : (delims : Delims) (e : ℕ) (row : Element) (text : List ℕ) → IsTrue (is_element_bounded row) → IsPlain delims text
    → fits row text ≡ true → element_found delims e row text ≡ []
fits_clean delims e row [] bounded plain h = empty_clean delims e row bounded h
fits_clean delims e row (byte ∷ bytes) bounded plain h = value_fits delims e row byte bytes bounded plain h

-- a condition that holds is broken nowhere
all_none : (present : ℕ → Bool) (positions : List ℕ) → list_all present positions ≡ true → absent present positions ≡ []
all_none present [] h = refl
all_none present (p ∷ positions) h =
    let e = both (present p) (list_all present positions) h in
    ap (λ b. if not b then p ∷ absent present positions else absent present positions) e.0 ∙ all_none present positions e.1

few_dropped : (xs : List ℕ) → nat_le (length xs) 1 ≡ true → drop 1 xs ≡ []
few_dropped [] h = refl
few_dropped (x ∷ []) h = refl
few_dropped (x ∷ y ∷ xs) h = let l : length (x ∷ y ∷ xs) ≤ 1 = leb-true (length (x ∷ y ∷ xs)) 1 h in absurd (omega arith)

unless : (a b : Bool) (xs : List ℕ) → (not a || b) ≡ true → (b ≡ true → xs ≡ []) → (if a then xs else []) ≡ []
unless true b xs h f = f h
unless false b xs h f = refl

none_if : (a b : Bool) (xs : List ℕ) → (not a || b) ≡ true → (if a then (if b then [] else xs) else []) ≡ []
none_if true true xs h = refl
none_if true false xs h = cc
none_if false b xs h = refl

pub holds_whole : (present : ℕ → Bool) (r : Relation) (positions : List ℕ) → holds present r positions ≡ true
    → broken_at present r positions ≡ []
holds_whole present relation.Paired positions h =
    unless (list_any present positions) (list_all present positions) (absent present positions) h (all_none present positions)
holds_whole present relation.Required positions h = ap (λ b. if b then [] else take 1 positions) h
holds_whole present relation.Exclusion positions h = few_dropped (filter present positions) h
holds_whole present relation.Conditional positions h =
    unless (list_any present (take 1 positions)) (list_all present (drop 1 positions)) (absent present (drop 1 positions)) h
    (all_none present (drop 1 positions))
holds_whole present relation.ListConditional positions h =
    none_if (list_any present (take 1 positions)) (list_any present (drop 1 positions)) (take 1 (drop 1 positions)) h

-- bits
unmarked : (present : ℕ → Bool) (n i : ℕ) → n < i → n < 64 → bit_at (bits_to present n) i ≡ 0
unmarked present zero i above few = bit_at-zero i
unmarked present (suc n) i above few =
    elim (present (suc n)) as (λ b. bit_at (marked (bits_to present n) (suc n) b) i ≡ 0) [
      | true ↦ bit_at_set_other w64 (bits_to present n) (suc n) few i (λ e. omega (arith, e))
          ∙ unmarked present n i (omega arith) (omega arith)
      | false ↦ unmarked present n i (omega arith) (omega arith)
    ]

-- the bit of a position is set where it passes the test
abbrev bit_is : (b : Bool) → ℕ
bit_is true = 1
bit_is false = 0

set_bit : (present : ℕ → Bool) (n i : ℕ) → 1 ≤ i → i ≤ n → n < 64 → bit_at (bits_to present n) i ≡ bit_is (present i)
set_bit present zero i from to few = absurd (omega arith)
set_bit present (suc n) i from to few = elim (cases_eq i (suc n)) [
  | inl e ↦ subst (λ i. bit_at (bits_to present (suc n)) i ≡ bit_is (present i)) (sym e)
      (elim (present (suc n)) as (λ b. bit_at (marked (bits_to present n) (suc n) b) (suc n) ≡ bit_is b) [
        | true ↦ bit_at_set_same w64 (bits_to present n) (suc n) few
        | false ↦ unmarked present n (suc n) (omega arith) (omega arith)
      ])
  | inr e ↦
      elim (present (suc n)) as (λ b. bit_at (marked (bits_to present n) (suc n) b) i ≡ bit_is (present i)) [
        | true ↦ bit_at_set_other w64 (bits_to present n) (suc n) few i e ∙ set_bit present n i from (omega arith) (omega arith)
        | false ↦ set_bit present n i from (omega arith) (omega arith)
      ]
]

is_one : (b : Bool) → (bit_is b == 1) ≡ b
is_one true = refl
is_one false = refl

pub is_set_to : (present : ℕ → Bool) (n i : ℕ) → 1 ≤ i → i ≤ n → n < 64 → is_set (bits_to present n) i ≡ present i
is_set_to present n i from to few =
    ap (λ b. b && (bit_at (bits_to present n) i == 1)) (lt-ltb i 64 (omega arith))
    ∙ ap (λ bit. bit == 1) (set_bit present n i from to few) ∙ is_one (present i)

pub is_set_past : (present : ℕ → Bool) (n i : ℕ) → n < 64 → n < i → is_set (bits_to present n) i ≡ false
is_set_past present n i few past = elim (cases_Bool (nat_lt i 64)) [
  | inl e ↦ let lt = ltb-true i 64 e in ap (λ b. b && (bit_at (bits_to present n) i == 1)) e
      ∙ ap (λ bit. bit == 1) (unmarked present n i past few)
  | inr e ↦ ap (λ b. b && (bit_at (bits_to present n) i == 1)) e
]

not_below : (present : ℕ → Bool) (n : ℕ) → n < 64 → bit_at (bits_to present n) 0 ≡ 0
not_below present zero few = bit_at-zero 0
not_below present (suc n) few =
    elim (present (suc n)) as (λ b. bit_at (marked (bits_to present n) (suc n) b) 0 ≡ 0) [
      | true ↦ bit_at_set_other w64 (bits_to present n) (suc n) few 0 (λ e. omega (arith, e)) ∙ not_below present n (omega arith)
      | false ↦ not_below present n (omega arith)
    ]

pub not_marked : (present : ℕ → Bool) (n : ℕ) → n < 64 → bit_at (bits_to present n) 0 ≡ 0
not_marked present n few = not_below present n few

pub filled_as : (delims : Delims) (text : List ℕ) → IsPlain delims text → is_filled delims text ≡ has_bytes text
filled_as delims [] plain = refl
filled_as delims (byte ∷ bytes) plain = ap not (filled_plain delims byte bytes plain)

flat_none : {X A : Type 0} (f : X → List A) (P : X → Type 0) (xs : List X) → All P xs → ((x : X) → P x → f x ≡ []) → flat_map f xs ≡ []
flat_none f P [] each h = refl
flat_none f P (x ∷ xs) each h = ap (λ l. l ++ flat_map f xs) (h x (All-head P x xs each)) ∙ flat_none f P xs (All-tail P x xs each) h

all_nth : {X : Type 0} (P : X → Type 0) (xs : List X) (k : ℕ) (x : X) → All P xs → nth xs k ≡ Some x → P x
all_nth P xs zero x h e = absurd (none-some x e)
all_nth P [] (suc k) x h e = absurd (none-some x e)
all_nth P (y ∷ xs) (suc zero) x h e = subst P (same_Some y x e) (All-head P y xs h)
all_nth P (y ∷ xs) (suc (suc k)) x h e = all_nth P xs (suc k) x (All-tail P y xs h) e

both_hold : {X : Type 0} (P Q : X → Type 0) (xs : List X) → All P xs → All Q xs → All (λ x. P x × Q x) xs
both_hold P Q [] h g = All-nil (λ x. P x × Q x)
both_hold P Q (x ∷ xs) h g = All-cons (λ x. P x × Q x) x xs (All-head P x xs h, All-head Q x xs g)
    (both_hold P Q xs (All-tail P x xs h) (All-tail Q x xs g))

-- what the quick look at a segment makes sure of
pub record LooksClean (delims : Delims) (s : Segment) (slot : Slot) : Type 0 where
  pub bounded : All (λ row. IsTrue (is_element_bounded row)) slot.elements
  pub sound : IsTrue (list_all (is_condition_of slot) slot.conditions)
  pub few : length slot.elements ≤ 40
  pub plain : (k : ℕ) → IsPlain delims (element_at s k)
  pub fit : (k : ℕ) (row : Element) → nth slot.elements k ≡ Some row → IsTrue (fits row (element_at s k))
  pub no_more : drop (length slot.elements) (drop 1 s) ≡ []
  pub hold : All (λ c. IsTrue (holds (is_set (bits_to (λ k. has_bytes (element_at s k)) (length slot.elements))) c.relation c.positions))
      slot.conditions

-- conditions that hold, by the bits of the elements that aren't empty, find nothing
module _ (delims : Delims) (s : Segment) (slot : Slot) (few : length slot.elements ≤ 40)
    (plain : (k : ℕ) → IsPlain delims (element_at s k)) where
  abbrev bits : ℕ
  bits = bits_to (λ k. has_bytes (element_at s k)) (length slot.elements)

  set_as : (p : ℕ) → 1 ≤ p → p ≤ length slot.elements → is_present_in delims (texts_of slot s) p ≡ is_set bits p
  set_as p from to =
      ap (is_filled delims) (text_of_row slot s p from to) ∙ filled_as delims (element_at s p) (plain p)
      ∙ sym (is_set_to (λ k. has_bytes (element_at s k)) (length slot.elements) p from to (omega arith))

  condition_clean : (c : Condition) → IsTrue (is_condition_of slot c) → IsTrue (holds (is_set bits) c.relation c.positions)
      → condition_found delims slot.elements (texts_of slot s) c ≡ []
  condition_clean c sound h =
      ap (λ l. flat_map (broken_found slot.elements (texts_of slot s) (condition_code c.relation)) l)
      (broken_agrees (is_present_in delims (texts_of slot s)) (is_set bits) c.relation c.positions
      (All-weaker (λ p. (1 ≤ p) × (p ≤ length slot.elements)) (λ p. is_present_in delims (texts_of slot s) p ≡ is_set bits p)
      (λ p w. set_as p w.0 w.1) c.positions (positions_have_rows slot c sound))
      ∙ holds_whole (is_set bits) c.relation c.positions h)

  pub conditions_clean : IsTrue (list_all (is_condition_of slot) slot.conditions)
      → All (λ c. IsTrue (holds (is_set bits) c.relation c.positions)) slot.conditions
      → conditions_found delims slot.elements slot.conditions (texts_of slot s) ≡ []
  conditions_clean sound hold = flat_none (condition_found delims slot.elements (texts_of slot s))
      (λ c. IsTrue (is_condition_of slot c) × IsTrue (holds (is_set bits) c.relation c.positions)) slot.conditions
      (both_hold (λ c. IsTrue (is_condition_of slot c)) (λ c. IsTrue (holds (is_set bits) c.relation c.positions)) slot.conditions
      (conditions_hold slot sound) hold)
      (λ c w. condition_clean c w.0 w.1)

module _ (delims : Delims) (s : Segment) (slot : Slot) (g : LooksClean delims s slot) where
  one_clean : (k : ℕ) (o : Option Element) → nth slot.elements k ≡ o
      → option_map_or (λ row. element_found delims k row (element_at s k)) o [] ≡ []
  one_clean k None e = refl
  one_clean k (Some row) e = fits_clean delims k row (element_at s k)
      (all_nth (λ row. IsTrue (is_element_bounded row)) slot.elements k row g.bounded e) (g.plain k) (g.fit k row e)

  rows_clean : rows_found delims slot.elements (texts_of slot s) ≡ []
  rows_clean =
      up_to_none (λ k. option_map_or (λ row. element_found delims k row (text_at (texts_of slot s) k)) (nth slot.elements k) [])
      (length slot.elements)
      (λ k from to. ap (λ t. option_map_or (λ row. element_found delims k row t) (nth slot.elements k) []) (text_of_row slot s k from to)
      ∙ one_clean k (nth slot.elements k) refl)

  extra_clean : extra_found delims slot s ≡ []
  extra_clean =
      ap (λ b. if b then fault (length slot.elements + 1) 0 0 ik403.TooManyElements []
      (element_at s (length slot.elements + 1)) ∷ [] else [])
      (ap (list_any (is_filled delims)) g.no_more)

  found_clean : found delims s slot ≡ []
  found_clean =
      ap (λ l. l ++ (extra_found delims slot s ++ conditions_found delims slot.elements slot.conditions (texts_of slot s))) rows_clean
      ∙ ap (λ l. l ++ conditions_found delims slot.elements slot.conditions (texts_of slot s)) extra_clean
      ∙ conditions_clean delims s slot g.few g.plain g.sound g.hold

  pub no_fault : (f : ElemFault) → IsElementFault delims s slot f → ⊥
  no_fault f h = no_member f (subst (λ l. Contains l f) found_clean (is_found delims s slot g.sound f h))
