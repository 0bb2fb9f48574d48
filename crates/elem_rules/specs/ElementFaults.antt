-- 999 guide, IK4: what is wrong with the elements of a segment, by the rows and conditions of its slot.
use Rattle.std.specs.Prelude.{ℕ, ◌≡◌, ◌+◌, ◌==◌, ◌≤◌, ◌⊎◌, IsTrue, IsFalse, IsSomeAnd, List, [], length, drop}
use Rattle.std.specs.Prelude.{Option, Some, None, if◌then◌else◌}
use Rattle.std.specs.List.{Contains}
use Rattle.std.specs.Option.{option_map_or}
use Rattle.x12_bytes.specs.declared.delims.Delims.{Delims}
use Rattle.x12_segs.specs.Words.{occurrences, components}
use Rattle.guide_tree.specs.declared.element.Requirement.{Requirement}
use Rattle.guide_tree.specs.declared.element.Requirement.TheVariants.{Mandatory, Optional}
use Rattle.guide_tree.specs.declared.element.Component.{Component}
use Rattle.guide_tree.specs.declared.element.Component.TheVariants as component
use Rattle.guide_tree.specs.declared.element.Element.{Element}
use Rattle.guide_tree.specs.declared.element.Element.TheVariants as element
use Rattle.guide_tree.specs.declared.slot.Slot.{Slot}
use Rattle.guide_tree.specs.declared.slot.Condition.{Condition}
use Rattle.guide_tree.specs.Words.{Segment, element_at}
use Rattle.hub_kinds.specs.declared.codes.ElementCode.{ElementCode}
use Rattle.hub_kinds.specs.declared.codes.ElementCode.TheVariants as ik403
use Rattle.hub_kinds.specs.declared.fault.ElemFault.{ElemFault}
use Rattle.elem_rules.specs.Conditions.{is_present, broken_at, condition_code}
use Rattle.elem_rules.specs.Divided.{is_empty, has_more, occurrence_in, component_in}
use Rattle.elem_rules.specs.Rows.{Usage, use_of_element, nth, shown_repetition, shown_component, reference_in}
use Rattle.elem_rules.specs.Values.{value_fault}

-- What is shown of a fault, by its place and code. A place is the number of an element, of a component of it and of a
-- repetition of it; the last two are 0 where they aren't shown.

-- a component of an occurrence of an element
abbrev pub component_at : Delims → List ℕ → (component repetition : ℕ) → List ℕ
component_at delims element component repetition = component_in delims (occurrence_in delims element repetition) component

-- the text that a code speaks of: nothing that is missing; the whole element; an occurrence; else a component
abbrev pub copy_in : Delims → List ℕ → (component repetition : ℕ) → ElementCode → List ℕ
copy_in delims element component repetition ik403.RequiredMissing = []
copy_in delims element component repetition ik403.ConditionalMissing = []
copy_in delims element component repetition ik403.TooManyElements = element
copy_in delims element component repetition ik403.TooShort = component_at delims element component repetition
copy_in delims element component repetition ik403.TooLong = component_at delims element component repetition
copy_in delims element component repetition ik403.InvalidCharacter = component_at delims element component repetition
copy_in delims element component repetition ik403.InvalidCode = component_at delims element component repetition
copy_in delims element component repetition ik403.InvalidDate = component_at delims element component repetition
copy_in delims element component repetition ik403.InvalidTime = component_at delims element component repetition
copy_in delims element component repetition ik403.ExclusionViolated = element
copy_in delims element component repetition ik403.TooManyRepetitions = occurrence_in delims element repetition
copy_in delims element component repetition ik403.TooManyComponents = component_at delims element component repetition
copy_in delims element component repetition ik403.CodeNotUsed = component_at delims element component repetition
copy_in delims element component repetition ik403.DependentMissing = []
copy_in delims element component repetition ik403.NotUsedPresent =
    if component == 0 then element else component_at delims element component repetition
copy_in delims element component repetition ik403.PatternFailure = element
copy_in delims element component repetition ik403.DependentNotUsedPresent = element

-- the fault with a code at a place: the reference number is that of the row there, if any
abbrev pub fault_at : Delims → Segment → Slot → (element component repetition : ℕ) → ElementCode → ElemFault
fault_at delims s slot element component repetition code = record {
  element = element;
  component = component;
  repetition = repetition;
  code = code;
  reference = option_map_or (λ row. reference_in row component) (nth slot.elements element) [];
  copy = copy_in delims (element_at s element) component repetition code;
}

-- a mandatory element or component that is empty
abbrev pub missing_fault : Requirement → Option ElementCode
missing_fault Mandatory = Some ik403.RequiredMissing
missing_fault Optional = None

-- a component: one that isn't used must be empty; else it is missing, or its value is judged
abbrev pub component_fault : Delims → Component → List ℕ → Option ElementCode
component_fault delims (component.NotUsed reference) text = if is_empty delims text then None else Some ik403.NotUsedPresent
component_fault delims (component.Simple row) text = if is_empty delims text then missing_fault row.requirement else value_fault row text

-- a whole element: one that isn't used must be empty; else it is missing, if anything
abbrev pub whole_fault : Delims → Element → List ℕ → Option ElementCode
whole_fault delims (element.NotUsed reference) text = if is_empty delims text then None else Some ik403.NotUsedPresent
whole_fault delims (element.Simple row repeat) text = if is_empty delims text then missing_fault row.requirement else None
whole_fault delims (element.Composite row) text = if is_empty delims text then missing_fault row.requirement else None

-- what is wrong in an element, and where in it
pub record Wrong : Type 0 where
  pub component : ℕ
  pub repetition : ℕ
  pub code : ElementCode

abbrev pub wrong_at : (component repetition : ℕ) → ElementCode → Wrong
wrong_at component repetition code = record { component = component; repetition = repetition; code = code }

-- the element as a whole
pub record IsWrongWhole (delims : Delims) (row : Element) (text : List ℕ) (w : Wrong) : Type 0 where
  pub code : ElementCode
  pub fault : whole_fault delims row text ≡ Some code
  pub is : w ≡ wrong_at 0 0 code

-- there are more occurrences than the row's repeat
pub record IsTooOften (delims : Delims) (usage : Usage) (text : List ℕ) (w : Wrong) : Type 0 where
  pub more : IsTrue (has_more delims usage.repeat (occurrences delims text))
  pub is : w ≡ wrong_at 0 (usage.repeat + 1) ik403.TooManyRepetitions

-- one of the first occurrences, up to the row's repeat, has more components than there are rows of them
pub record IsTooWide (delims : Delims) (usage : Usage) (text : List ℕ) (w : Wrong) : Type 0 where
  pub n : ℕ
  pub from : 1 ≤ n
  pub to : n ≤ usage.repeat
  pub more : IsTrue (has_more delims (length usage.components) (components delims (occurrence_in delims text n)))
  pub is : w ≡ wrong_at (length usage.components + 1) (shown_repetition usage n) ik403.TooManyComponents

-- one of these occurrences, not empty and with no more components than that, has a component with a fault
pub record IsWrongComponent (delims : Delims) (usage : Usage) (text : List ℕ) (w : Wrong) : Type 0 where
  pub n : ℕ
  pub from : 1 ≤ n
  pub to : n ≤ usage.repeat
  pub filled : IsFalse (is_empty delims (occurrence_in delims text n))
  pub few : IsFalse (has_more delims (length usage.components) (components delims (occurrence_in delims text n)))
  pub m : ℕ
  pub row : Component
  pub there : nth usage.components m ≡ Some row
  pub code : ElementCode
  pub fault : component_fault delims row (component_in delims (occurrence_in delims text n) m) ≡ Some code
  pub is : w ≡ wrong_at (shown_component usage m) (shown_repetition usage n) code

-- what is wrong in an element that has a row; of one that isn't used nothing else is checked
abbrev pub IsWrong : Delims → Element → List ℕ → Wrong → Type 0
IsWrong delims row text w =
    IsWrongWhole delims row text w
    ⊎ IsSomeAnd (use_of_element row)
    (λ usage. IsTooOften delims usage text w ⊎ (IsTooWide delims usage text w ⊎ IsWrongComponent delims usage text w))

-- there are more elements than rows: one fault, at the first element without a row
pub record IsExtraElement (delims : Delims) (s : Segment) (slot : Slot) (f : ElemFault) : Type 0 where
  pub more : IsTrue (has_more delims (length slot.elements) (drop 1 s))
  pub is : f ≡ fault_at delims s slot (length slot.elements + 1) 0 0 ik403.TooManyElements

-- something is wrong in an element that has a row
pub record IsRowFault (delims : Delims) (s : Segment) (slot : Slot) (f : ElemFault) : Type 0 where
  pub position : ℕ
  pub row : Element
  pub there : nth slot.elements position ≡ Some row
  pub w : Wrong
  pub wrong : IsWrong delims row (element_at s position) w
  pub is : f ≡ fault_at delims s slot position w.component w.repetition w.code

-- a relational condition is broken at an element
pub record IsConditionFault (delims : Delims) (s : Segment) (slot : Slot) (f : ElemFault) : Type 0 where
  pub condition : Condition
  pub listed : Contains slot.conditions condition
  pub position : ℕ
  pub broken : Contains (broken_at (is_present delims s) condition.relation condition.positions) position
  pub is : f ≡ fault_at delims s slot position 0 0 (condition_code condition.relation)

-- the faults of a segment's elements
abbrev pub IsElementFault : Delims → Segment → Slot → ElemFault → Type 0
IsElementFault delims s slot f = IsExtraElement delims s slot f ⊎ (IsRowFault delims s slot f ⊎ IsConditionFault delims s slot f)
