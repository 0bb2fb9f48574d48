-- The exact check by the places of separators, step by step.
use Rattle.std.proofs.Common.{◌≡◌, ℕ, ◌+◌, ◌<◌, ◌∙◌, List, [], ◌++◌, Bool, true, false, length, get_or, drop, ap, sym, arith, append-nil}
use Rattle.std.specs.Prelude.{IsTrue, ◌||◌, ◌==◌, not}
use Rattle.std.specs.List.{list_any}
use Rattle.std.proofs.lemmas.List.{drop_more, length-drop}
use Rattle.std.proofs.lemmas.Grind.{get_or_after_one}
use Rattle.memchr.specs.Find.{is_byte, places}
use Rattle.x12_bytes.specs.declared.delims.Delims.{Delims}
use Rattle.x12_segs.specs.Words.{parts}
use Rattle.guide_tree.specs.declared.element.Element.{Element}
use Rattle.guide_tree.specs.Words.{Segment, element_at, is_element_bounded}
use Rattle.hub_kinds.specs.declared.fault.ElemFault.{ElemFault}
use Rattle.elem_rules.specs.Divided.{is_filled, has_more}
use Rattle.elem_rules.specs.Clean.{fits}
use Rattle.guide_tree.specs.declared.slot.Slot.{Slot}
use Rattle.guide_tree.specs.declared.slot.Condition.{Condition}
use Rattle.elem_rules.specs.Found.{texts_of, element_found, conditions_found}
use Rattle.elem_rules.proofs.Looks.{has_length}
use Rattle.elem_rules.proofs.Places.{length_parts}
use Rattle.elem_rules.proofs.Plain.{IsPlain}
use Rattle.elem_rules.proofs.Quick.{filled_as, fits_clean}

-- an element that surely fits its row adds nothing
pub nothing_added : (delims : Delims) (e : ℕ) (row : Element) (text : List ℕ) (found : List ElemFault) → IsTrue (is_element_bounded row)
    → IsPlain delims text → fits row text ≡ true → found ≡ found ++ element_found delims e row text
nothing_added delims e row text found bounded plain fit =
    sym (ap (λ l. found ++ l) (fits_clean delims e row text bounded plain fit) ∙ append-nil found)

-- there are as many elements as separators
pub elements_behind : (t : ℕ) (text ps : List ℕ) → ps ≡ places (is_byte t) text → length (drop 1 (parts t text)) ≡ length ps
elements_behind t text ps are = omega (arith, length-drop 1 (parts t text), length_parts t text ps are)

-- an element of a plain segment is filled where it has bytes
pub filled_by_length : (delims : Delims) (text : List ℕ) (empty : Bool) → IsPlain delims text → empty ≡ (length text == 0)
    → is_filled delims text ≡ not empty
filled_by_length delims text empty plain is = filled_as delims text plain ∙ sym (has_length text) ∙ sym (ap not is)

-- one more element is empty
pub extra_more : (delims : Delims) (s : Segment) (n k : ℕ) (text : List ℕ) → k < length (drop 1 s) → text ≡ element_at s (k + 1)
    → is_filled delims text ≡ false → has_more delims n (drop 1 s) ≡ has_more delims k (drop 1 s)
    → has_more delims n (drop 1 s) ≡ has_more delims (k + 1) (drop 1 s)
extra_more delims s n k text within at none so_far =
    let next : 1 + k ≡ k + 1 = omega arith in
    let is : get_or (drop 1 s) k [] ≡ text = get_or_after_one s k [] ∙ ap (λ i. get_or s i []) next ∙ sym at in
    so_far ∙ ap (list_any (is_filled delims)) (drop_more (drop 1 s) k [] within)
    ∙ ap (λ b. b || list_any (is_filled delims) (drop (k + 1) (drop 1 s))) (ap (is_filled delims) is ∙ none)

-- one more element isn't
pub extra_here : (delims : Delims) (s : Segment) (n k : ℕ) (text : List ℕ) → k < length (drop 1 s) → text ≡ element_at s (k + 1)
    → is_filled delims text ≡ true → has_more delims n (drop 1 s) ≡ has_more delims k (drop 1 s)
    → has_more delims n (drop 1 s) ≡ true
extra_here delims s n k text within at some so_far =
    let next : 1 + k ≡ k + 1 = omega arith in
    let is : get_or (drop 1 s) k [] ≡ text = get_or_after_one s k [] ∙ ap (λ i. get_or s i []) next ∙ sym at in
    so_far ∙ ap (list_any (is_filled delims)) (drop_more (drop 1 s) k [] within)
    ∙ ap (λ b. b || list_any (is_filled delims) (drop (k + 1) (drop 1 s))) (ap (is_filled delims) is ∙ some)

-- the conditions are judged over the slot's rows and the segment's texts
pub conditions_same : (delims given : Delims) (s : Segment) (slot : Slot) (rows : List Element) (texts : List (List ℕ))
    (conditions : List Condition) → given ≡ delims → rows ≡ slot.elements → conditions ≡ slot.conditions → texts ≡ texts_of slot s
    → conditions_found given rows conditions texts ≡ conditions_found delims slot.elements slot.conditions (texts_of slot s)
conditions_same delims given s slot rows texts conditions is_given are_rows are_conditions are_texts =
    ap (λ d. conditions_found d rows conditions texts) is_given ∙ ap (λ r. conditions_found delims r conditions texts) are_rows
    ∙ ap (λ k. conditions_found delims slot.elements k texts) are_conditions
    ∙ ap (λ t. conditions_found delims slot.elements slot.conditions t) are_texts
