-- X12.6, data elements: what two lists of rows say otherwise, row by row.
use Rattle.std.specs.Prelude.{ℕ, ◌+◌, List, [], ◌∷◌, ◌++◌, Bool, true, false, length, Option, Some, None}
use Rattle.guide_tree.specs.declared.element.Requirement.{Requirement}
use Rattle.guide_tree.specs.declared.element.Requirement.TheVariants as requirement
use Rattle.guide_tree.specs.declared.element.CodeList.{CodeList}
use Rattle.guide_tree.specs.declared.element.SimpleRow.{SimpleRow}
use Rattle.guide_tree.specs.declared.element.Component.{Component}
use Rattle.guide_tree.specs.declared.element.Component.TheVariants as component
use Rattle.guide_tree.specs.declared.element.CompositeRow.{CompositeRow}
use Rattle.guide_tree.specs.declared.element.Element.{Element}
use Rattle.guide_tree.specs.declared.element.Element.TheVariants as element
use Rattle.guide_widening.specs.Rows.{fits_empty, fits_no_component}
use Rattle.guide_widening.specs.declared.difference.At.{At}
use Rattle.guide_widening.specs.declared.difference.Change.{Change}
use Rattle.guide_widening.specs.declared.difference.Change.TheVariants.{Narrower, Wider, Other}
use Rattle.guide_widening.specs.declared.difference.Difference.{Difference}
use Rattle.guide_widening.specs.declared.difference.Key.TheVariants as key
use Rattle.guide_widening.specs.declared.difference.Presence.{Presence}
use Rattle.guide_widening.specs.declared.difference.Presence.TheVariants as presence
use Rattle.guide_widening.specs.declared.difference.Value.TheVariants as value
use Rattle.guide_widening.specs.Changes.{said, least_change, most_change, asked_change, requirement_change, type_change}
use Rattle.guide_widening.specs.Changes.{gone_texts, new_texts}

abbrev pub required : Requirement → Presence
required requirement.Mandatory = presence.Mandatory
required requirement.Optional = presence.Optional

abbrev pub component_presence : Component → Presence
component_presence (component.NotUsed reference) = presence.NotUsed
component_presence (component.Simple row) = required row.requirement

abbrev pub element_presence : Element → Presence
element_presence (element.NotUsed reference) = presence.NotUsed
element_presence (element.Simple row repeat) = required row.requirement
element_presence (element.Composite row) = required row.requirement

abbrev pub codes_differences : At → (old new : Option CodeList) → List Difference
codes_differences at None None = []
codes_differences at None (Some new) = said at key.Codes (Some Narrower) (value.Flag false) (value.Flag true)
codes_differences at (Some old) None = said at key.Codes (Some Wider) (value.Flag true) (value.Flag false)
codes_differences at (Some old) (Some new) =
    gone_texts at key.Code new.used old.used ++ new_texts at key.Code old.used new.used

abbrev pub requirement_differences : At → (old new : Requirement) → List Difference
requirement_differences at old new =
    said at key.Presence (requirement_change old new) (value.Presence (required old)) (value.Presence (required new))

abbrev pub repeat_differences : At → (old new : ℕ) → List Difference
repeat_differences at old new = said at key.Repeat (most_change old new) (value.Number old) (value.Number new)

abbrev pub form_differences : At → (old new : SimpleRow) → List Difference
form_differences at old new =
    requirement_differences at old.requirement new.requirement
    ++ said at key.Type (type_change old.data_type new.data_type) (value.Type old.data_type) (value.Type new.data_type)

abbrev pub length_differences : At → (old new : SimpleRow) → List Difference
length_differences at old new =
    said at key.LeastLength (least_change old.min new.min) (value.Number old.min) (value.Number new.min)
    ++ said at key.GreatestLength (most_change old.max new.max) (value.Number old.max) (value.Number new.max)

abbrev pub row_differences : At → (old new : SimpleRow) → List Difference
row_differences at old new =
    form_differences at old new
    ++ (length_differences at old new
    ++ (said at key.Wide (asked_change new.wide old.wide) (value.Flag old.wide) (value.Flag new.wide)
    ++ codes_differences at old.codes new.codes))

-- a row that is used and wasn't, or that is new: narrower where it may not be empty
abbrev pub used_change : (may_be_empty : Bool) → Option Change
used_change true = Some Wider
used_change false = Some Narrower

abbrev pub component_differences : At → (old new : Component) → List Difference
component_differences at (component.NotUsed reference) (component.NotUsed other) = []
component_differences at (component.NotUsed reference) (component.Simple new) =
    said at key.Presence (used_change (fits_no_component (component.Simple new))) (value.Presence presence.NotUsed)
    (value.Presence (required new.requirement))
component_differences at (component.Simple old) (component.NotUsed reference) =
    said at key.Presence (Some Narrower) (value.Presence (required old.requirement)) (value.Presence presence.NotUsed)
component_differences at (component.Simple old) (component.Simple new) = row_differences at old new

abbrev pub component_at : At → ℕ → At
component_at at n = record { node = at.node; element = at.element; component = n }

-- a component that is new, or gone, or is in both lists
abbrev pub component_pair : At → (old new : Option Component) → List Difference
component_pair at None None = []
component_pair at None (Some new) =
    said at key.Presence (used_change (fits_no_component new)) value.Nothing (value.Presence (component_presence new))
component_pair at (Some old) None = said at key.Presence (Some Narrower) (value.Presence (component_presence old)) value.Nothing
component_pair at (Some old) (Some new) = component_differences at old new

-- component by component from number n on
abbrev pub components_differences : At → (n : ℕ) → (old new : List Component) → List Difference
components_differences at n [] [] = []
components_differences at n [] (d ∷ new) = component_pair (component_at at n) None (Some d) ++ components_differences at (n + 1) [] new
components_differences at n (c ∷ old) [] = component_pair (component_at at n) (Some c) None ++ components_differences at (n + 1) old []
components_differences at n (c ∷ old) (d ∷ new) =
    component_pair (component_at at n) (Some c) (Some d) ++ components_differences at (n + 1) old new

abbrev pub composite_differences : At → (old new : CompositeRow) → List Difference
composite_differences at old new =
    requirement_differences at old.requirement new.requirement
    ++ (repeat_differences at old.repeat new.repeat ++ components_differences at 1 old.components new.components)

abbrev pub gone_presence : At → Element → List Difference
gone_presence at old = said at key.Presence (Some Narrower) (value.Presence (element_presence old)) (value.Presence presence.NotUsed)

abbrev pub new_presence : At → Element → List Difference
new_presence at new =
    said at key.Presence (used_change (fits_empty new)) (value.Presence presence.NotUsed) (value.Presence (element_presence new))

abbrev pub element_differences : At → (old new : Element) → List Difference
element_differences at (element.NotUsed reference) (element.NotUsed other) = []
element_differences at (element.NotUsed reference) (element.Simple new often) = new_presence at (element.Simple new often)
element_differences at (element.NotUsed reference) (element.Composite new) = new_presence at (element.Composite new)
element_differences at (element.Simple old repeat) (element.NotUsed reference) = gone_presence at (element.Simple old repeat)
element_differences at (element.Simple old repeat) (element.Simple new often) =
    repeat_differences at repeat often ++ row_differences at old new
element_differences at (element.Simple old repeat) (element.Composite new) =
    said at key.Components (Some Other) (value.Number 0) (value.Number (length new.components))
element_differences at (element.Composite old) (element.NotUsed reference) = gone_presence at (element.Composite old)
element_differences at (element.Composite old) (element.Simple new often) =
    said at key.Components (Some Other) (value.Number (length old.components)) (value.Number 0)
element_differences at (element.Composite old) (element.Composite new) = composite_differences at old new

abbrev pub element_at : At → ℕ → At
element_at at n = record { node = at.node; element = n; component = 0 }

-- an element that is new, or gone, or is in both segments
abbrev pub element_pair : At → (old new : Option Element) → List Difference
element_pair at None None = []
element_pair at None (Some new) =
    said at key.Presence (used_change (fits_empty new)) value.Nothing (value.Presence (element_presence new))
element_pair at (Some old) None = said at key.Presence (Some Narrower) (value.Presence (element_presence old)) value.Nothing
element_pair at (Some old) (Some new) = element_differences at old new

-- element by element from number n on
abbrev pub elements_differences : At → (n : ℕ) → (old new : List Element) → List Difference
elements_differences at n [] [] = []
elements_differences at n [] (f ∷ new) = element_pair (element_at at n) None (Some f) ++ elements_differences at (n + 1) [] new
elements_differences at n (e ∷ old) [] = element_pair (element_at at n) (Some e) None ++ elements_differences at (n + 1) old []
elements_differences at n (e ∷ old) (f ∷ new) =
    element_pair (element_at at n) (Some e) (Some f) ++ elements_differences at (n + 1) old new
