-- Own: the faults of a segment's elements as the walk over it finds them, number by number. No public clause cites these
-- lists: that they hold the faults of `IsElementFault` and no others is proved.
use Rattle.std.specs.Prelude.{ℕ, zero, suc, ◌+◌, List, [], ◌∷◌, ◌++◌, length, take, drop, map}
use Rattle.std.specs.Prelude.{Option, Some, None, unwrap_or, Bool, if◌then◌else◌}
use denote.Ref.{Bor}
use Rattle.std.specs.List.{flat_map}
use Rattle.std.specs.Option.{option_map_or}
use Rattle.x12_bytes.specs.declared.delims.Delims.{Delims}
use Rattle.x12_segs.specs.Words.{occurrences, components}
use Rattle.guide_tree.specs.declared.element.Component.{Component}
use Rattle.guide_tree.specs.declared.element.Element.{Element}
use Rattle.guide_tree.specs.declared.slot.Slot.{Slot}
use Rattle.guide_tree.specs.declared.slot.Condition.{Condition}
use Rattle.guide_tree.specs.Words.{Segment, element_at}
use Rattle.hub_kinds.specs.declared.codes.ElementCode.{ElementCode}
use Rattle.hub_kinds.specs.declared.codes.ElementCode.TheVariants as ik403
use Rattle.hub_kinds.specs.declared.fault.ElemFault.{ElemFault}
use Rattle.elem_rules.specs.Conditions.{broken_at, condition_code}
use Rattle.elem_rules.specs.Divided.{is_empty, is_filled, has_more, occurrence_in, component_in}
use Rattle.elem_rules.specs.Rows.{Usage, use_of_element, nth, shown_repetition, element_reference, component_reference, reference_at}
use Rattle.elem_rules.specs.ElementFaults.{component_fault, whole_fault}

-- what f gives of the numbers from 1 to n, one after another
abbrev pub up_to : {A : Type 0} → (ℕ → List A) → ℕ → List A
up_to f zero = []
up_to f (suc n) = up_to f n ++ f (suc n)

abbrev pub fault : (element component repetition : ℕ) → ElementCode → (reference copy : List ℕ) → ElemFault
fault element component repetition code reference copy = record {
  element = element;
  component = component;
  repetition = repetition;
  code = code;
  reference = reference;
  copy = copy;
}

-- of what is missing nothing is copied
abbrev pub copy_of : ElementCode → List ℕ → List ℕ
copy_of ik403.RequiredMissing text = []
copy_of ik403.ConditionalMissing text = []
copy_of ik403.TooManyElements text = text
copy_of ik403.TooShort text = text
copy_of ik403.TooLong text = text
copy_of ik403.InvalidCharacter text = text
copy_of ik403.InvalidCode text = text
copy_of ik403.InvalidDate text = text
copy_of ik403.InvalidTime text = text
copy_of ik403.ExclusionViolated text = text
copy_of ik403.TooManyRepetitions text = text
copy_of ik403.TooManyComponents text = text
copy_of ik403.CodeNotUsed text = text
copy_of ik403.DependentMissing text = []
copy_of ik403.NotUsedPresent text = text
copy_of ik403.PatternFailure text = text
copy_of ik403.DependentNotUsedPresent text = text

-- the fault with a code, if there is one
abbrev pub reported : (element component repetition : ℕ) → (reference text : List ℕ) → Option ElementCode → List ElemFault
reported element component repetition reference text None = []
reported element component repetition reference text (Some code) =
    fault element component repetition code reference (copy_of code text) ∷ []

abbrev pub component_found : Delims → (element repetition component : ℕ) → Component → (text : List ℕ) → List ElemFault
component_found delims element repetition component row text =
    reported element component repetition (component_reference row) text (component_fault delims row text)

-- the components of an occurrence that have rows; their numbers are shown in composites
abbrev pub components_found : Delims → (element repetition : ℕ) → (is_composite : Bool) → List Component → (occurrence : List ℕ)
    → List ElemFault
components_found delims element repetition is_composite rows occurrence =
    up_to (λ m. option_map_or
    (λ row. component_found delims element repetition (if is_composite then m else 0) row (component_in delims occurrence m))
    (nth rows m) []) (length rows)

abbrev pub occurrence_found : Delims → (element repetition : ℕ) → (reference : List ℕ) → (is_composite : Bool) → List Component
    → (occurrence : List ℕ) → List ElemFault
occurrence_found delims element repetition reference is_composite rows occurrence =
    if has_more delims (length rows) (components delims occurrence)
    then fault element (length rows + 1) repetition ik403.TooManyComponents reference
    (component_in delims occurrence (length rows + 1)) ∷ []
    else (if is_empty delims occurrence then []
    else components_found delims element repetition is_composite rows occurrence)

abbrev pub too_often_found : Delims → (element repeat : ℕ) → (reference text : List ℕ) → List ElemFault
too_often_found delims element repeat reference text =
    if has_more delims repeat (occurrences delims text)
    then fault element 0 (repeat + 1) ik403.TooManyRepetitions reference (occurrence_in delims text (repeat + 1)) ∷ []
    else []

abbrev pub occurrences_found : Delims → (element : ℕ) → Usage → (text : List ℕ) → List ElemFault
occurrences_found delims element usage text =
    up_to (λ n. occurrence_found delims element (shown_repetition usage n) usage.reference usage.is_composite usage.components
    (occurrence_in delims text n)) usage.repeat

abbrev pub usage_found : Delims → (element : ℕ) → (text : List ℕ) → Usage → List ElemFault
usage_found delims element text usage =
    too_often_found delims element usage.repeat usage.reference text ++ occurrences_found delims element usage text

abbrev pub whole_found : Delims → (element : ℕ) → Element → (text : List ℕ) → List ElemFault
whole_found delims element row text = reported element 0 0 (element_reference row) text (whole_fault delims row text)

abbrev pub element_found : Delims → (element : ℕ) → Element → (text : List ℕ) → List ElemFault
element_found delims element row text =
    whole_found delims element row text ++ option_map_or (usage_found delims element text) (use_of_element row) []

-- the bytes of lent texts
abbrev pub read : List (Bor (List ℕ)) → List (List ℕ)
read texts = map (λ text. text.now) texts

-- the text of an element among those that have rows; empty where it has none
abbrev pub text_at : List (List ℕ) → ℕ → List ℕ
text_at texts position = unwrap_or (nth texts position) []

abbrev pub rows_found : Delims → List Element → List (List ℕ) → List ElemFault
rows_found delims rows texts =
    up_to (λ k. option_map_or (λ row. element_found delims k row (text_at texts k)) (nth rows k) []) (length rows)

abbrev pub extra_found : Delims → Slot → Segment → List ElemFault
extra_found delims slot s =
    if has_more delims (length slot.elements) (drop 1 s)
    then fault (length slot.elements + 1) 0 0 ik403.TooManyElements [] (element_at s (length slot.elements + 1)) ∷ []
    else []

-- what a broken condition copies: an element that is too much
abbrev pub condition_copy : ElementCode → List ℕ → List ℕ
condition_copy ik403.RequiredMissing text = []
condition_copy ik403.ConditionalMissing text = []
condition_copy ik403.TooManyElements text = []
condition_copy ik403.TooShort text = []
condition_copy ik403.TooLong text = []
condition_copy ik403.InvalidCharacter text = []
condition_copy ik403.InvalidCode text = []
condition_copy ik403.InvalidDate text = []
condition_copy ik403.InvalidTime text = []
condition_copy ik403.ExclusionViolated text = text
condition_copy ik403.TooManyRepetitions text = []
condition_copy ik403.TooManyComponents text = []
condition_copy ik403.CodeNotUsed text = []
condition_copy ik403.DependentMissing text = []
condition_copy ik403.NotUsedPresent text = []
condition_copy ik403.PatternFailure text = []
condition_copy ik403.DependentNotUsedPresent text = []

abbrev pub broken_found : List Element → List (List ℕ) → ElementCode → ℕ → List ElemFault
broken_found rows texts code position =
    fault position 0 0 code (reference_at rows position) (condition_copy code (text_at texts position)) ∷ []

abbrev pub is_present_in : Delims → List (List ℕ) → ℕ → Bool
is_present_in delims texts position = is_filled delims (text_at texts position)

-- by a test of the positions whose elements are present
abbrev pub condition_found_by : (ℕ → Bool) → List Element → List (List ℕ) → Condition → List ElemFault
condition_found_by present rows texts condition =
    flat_map (broken_found rows texts (condition_code condition.relation)) (broken_at present condition.relation condition.positions)

abbrev pub condition_found : Delims → List Element → List (List ℕ) → Condition → List ElemFault
condition_found delims rows texts condition = condition_found_by (is_present_in delims texts) rows texts condition

abbrev pub conditions_found : Delims → List Element → List Condition → List (List ℕ) → List ElemFault
conditions_found delims rows conditions texts = flat_map (condition_found delims rows texts) conditions

-- the texts of the elements that have rows
abbrev pub texts_of : Slot → Segment → List (List ℕ)
texts_of slot s = take (length slot.elements) (drop 1 s)

abbrev pub found : Delims → Segment → Slot → List ElemFault
found delims s slot =
    rows_found delims slot.elements (texts_of slot s)
    ++ (extra_found delims slot s ++ conditions_found delims slot.elements slot.conditions (texts_of slot s))
