-- X12.6, data elements and composite data elements: what a row of a guide says of an element, simple or composite.
use Rattle.std.specs.Prelude.{ℕ, zero, suc, List, [], ◌∷◌, Option, Some, None, slice_get, Bool, true, false, nat_lt, if◌then◌else◌}
use Rattle.std.specs.Option.{option_map_or}
use Rattle.guide_tree.specs.declared.element.Requirement.{Requirement}
use Rattle.guide_tree.specs.declared.element.SimpleRow.{SimpleRow}
use Rattle.guide_tree.specs.declared.element.CompositeRow.{CompositeRow}
use Rattle.guide_tree.specs.declared.element.Component.{Component}
use Rattle.guide_tree.specs.declared.element.Component.TheVariants as component
use Rattle.guide_tree.specs.declared.element.Element.{Element}
use Rattle.guide_tree.specs.declared.element.Element.TheVariants as element

-- what is said of an element that is used: a simple one has one component, whose number isn't shown
pub record Usage : Type 0 where
  pub reference : List ℕ
  pub requirement : Requirement
  pub repeat : ℕ
  pub components : List Component
  pub is_composite : Bool

abbrev pub simple_usage : SimpleRow → ℕ → Usage
simple_usage row repeat = record {
  reference = row.reference;
  requirement = row.requirement;
  repeat = repeat;
  components = component.Simple row ∷ [];
  is_composite = false;
}

abbrev pub composite_usage : CompositeRow → Usage
composite_usage row = record {
  reference = row.reference;
  requirement = row.requirement;
  repeat = row.repeat;
  components = row.components;
  is_composite = true;
}

abbrev pub use_of_element : Element → Option Usage
use_of_element (element.NotUsed reference) = None
use_of_element (element.Simple row repeat) = Some (simple_usage row repeat)
use_of_element (element.Composite row) = Some (composite_usage row)

-- an element's repetitions are numbered where there may be more than one, a composite's components always
abbrev pub shown_repetition : Usage → ℕ → ℕ
shown_repetition usage n = if nat_lt 1 usage.repeat then n else 0

abbrev pub shown_component : Usage → ℕ → ℕ
shown_component usage n = if usage.is_composite then n else 0

-- the reference number of an element's row
abbrev pub element_reference : Element → List ℕ
element_reference (element.NotUsed reference) = reference
element_reference (element.Simple row repeat) = row.reference
element_reference (element.Composite row) = row.reference

abbrev pub component_reference : Component → List ℕ
component_reference (component.NotUsed reference) = reference
component_reference (component.Simple row) = row.reference

-- item n of a list, from 1
abbrev pub nth : {X : Type 0} → List X → ℕ → Option X
nth xs zero = None
nth xs (suc n) = slice_get xs n

-- the reference number of the row at a position, from 1; empty where there is none
abbrev pub reference_at : List Element → (position : ℕ) → List ℕ
reference_at rows position = option_map_or element_reference (nth rows position) []

-- the component rows of an element
abbrev pub components_of : Element → List Component
components_of (element.NotUsed reference) = []
components_of (element.Simple row repeat) = []
components_of (element.Composite row) = row.components

-- the reference number at a place: of the component that has a row there, else of the element
abbrev pub reference_in : Element → ℕ → List ℕ
reference_in row n = option_map_or component_reference (nth (components_of row) n) (element_reference row)
