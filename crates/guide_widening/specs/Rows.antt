-- X12.6, data elements: a new row takes each element that the old row of the same place takes.
use Rattle.std.specs.Prelude.{ℕ, ◌==◌, nat_le, List, [], ◌∷◌, Bool, true, false, ◌&&◌, ◌||◌, not, Option, Some, None}
use Rattle.std.specs.List.{list_all}
use Rattle.guide_tree.specs.declared.element.Requirement.{Requirement}
use Rattle.guide_tree.specs.declared.element.Requirement.TheVariants.{Mandatory, Optional}
use Rattle.guide_tree.specs.declared.element.ElementType.{ElementType}
use Rattle.guide_tree.specs.declared.element.ElementType.TheVariants.{Text, Identifier, Number, Decimal, Date, Time}
use Rattle.guide_tree.specs.declared.element.CodeList.{CodeList}
use Rattle.guide_tree.specs.declared.element.SimpleRow.{SimpleRow}
use Rattle.guide_tree.specs.declared.element.Component.{Component}
use Rattle.guide_tree.specs.declared.element.Component.TheVariants as component
use Rattle.guide_tree.specs.declared.element.CompositeRow.{CompositeRow}
use Rattle.guide_tree.specs.declared.element.Element.{Element}
use Rattle.guide_tree.specs.declared.element.Element.TheVariants as element
use Rattle.hub_kinds.specs.Words.{contains_text}

abbrev pub is_optional : Requirement → Bool
is_optional Mandatory = false
is_optional Optional = true

-- what is optional doesn't become mandatory
abbrev pub is_wider_requirement : (old new : Requirement) → Bool
is_wider_requirement Mandatory new = true
is_wider_requirement Optional new = is_optional new

abbrev pub is_text_type : ElementType → Bool
is_text_type Text = true
is_text_type Identifier = true
is_text_type (Number places) = false
is_text_type Decimal = false
is_text_type Date = false
is_text_type Time = false

-- the type is the same; a string may become an identifier, and the other way round
abbrev pub is_wider_type : (old new : ElementType) → Bool
is_wider_type Text new = is_text_type new
is_wider_type Identifier new = is_text_type new
is_wider_type (Number places) (Number others) = places == others
is_wider_type (Number places) new = false
is_wider_type Decimal Decimal = true
is_wider_type Decimal new = false
is_wider_type Date Date = true
is_wider_type Date new = false
is_wider_type Time Time = true
is_wider_type Time new = false

-- each text of one list is in the other
abbrev pub are_texts_of : (other texts : List (List ℕ)) → Bool
are_texts_of other texts = list_all (contains_text other) texts

-- any value, or each code that was used
abbrev pub is_wider_codes : (old new : Option CodeList) → Bool
is_wider_codes old None = true
is_wider_codes None (Some new) = false
is_wider_codes (Some old) (Some new) = are_texts_of new.used old.used

-- the new least isn't greater and the new greatest no less
abbrev pub is_wider_range : (old_min old_max new_min new_max : ℕ) → Bool
is_wider_range old_min old_max new_min new_max = nat_le new_min old_min && nat_le old_max new_max

-- bytes from 0x80 on stay allowed
abbrev pub is_wider_alphabet : (old new : Bool) → Bool
is_wider_alphabet old new = not old || new

-- A row takes each value that the old one takes: its requirement, type, lengths, bytes and codes are at most as strict.
abbrev pub is_wider_row : (old new : SimpleRow) → Bool
is_wider_row old new =
    is_wider_requirement old.requirement new.requirement
    && is_wider_type old.data_type new.data_type
    && is_wider_range old.min old.max new.min new.max
    && is_wider_alphabet old.wide new.wide
    && is_wider_codes old.codes new.codes

-- a component may be empty
abbrev pub fits_no_component : Component → Bool
fits_no_component (component.NotUsed reference) = true
fits_no_component (component.Simple row) = is_optional row.requirement

-- one that wasn't used must be optional if it is used, and one that was used stays so
abbrev pub is_wider_component : (old new : Component) → Bool
is_wider_component (component.NotUsed reference) new = fits_no_component new
is_wider_component (component.Simple old) (component.NotUsed reference) = false
is_wider_component (component.Simple old) (component.Simple new) = is_wider_row old new

-- row by row; further rows at the end may be empty
abbrev pub are_wider_components : (old new : List Component) → Bool
are_wider_components [] new = list_all fits_no_component new
are_wider_components (row ∷ old) [] = false
are_wider_components (row ∷ old) (next ∷ new) = is_wider_component row next && are_wider_components old new

abbrev pub is_wider_composite : (old new : CompositeRow) → Bool
is_wider_composite old new =
    is_wider_requirement old.requirement new.requirement
    && nat_le old.repeat new.repeat
    && are_wider_components old.components new.components

-- an element may be empty
abbrev pub fits_empty : Element → Bool
fits_empty (element.NotUsed reference) = true
fits_empty (element.Simple row repeat) = is_optional row.requirement
fits_empty (element.Composite row) = is_optional row.requirement

-- an element that wasn't used must be optional if it is used; a simple one stays simple, a composite one composite
abbrev pub is_wider_element : (old new : Element) → Bool
is_wider_element (element.NotUsed reference) new = fits_empty new
is_wider_element (element.Simple old repeat) (element.NotUsed reference) = false
is_wider_element (element.Simple old repeat) (element.Simple new often) = nat_le repeat often && is_wider_row old new
is_wider_element (element.Simple old repeat) (element.Composite new) = false
is_wider_element (element.Composite old) (element.NotUsed reference) = false
is_wider_element (element.Composite old) (element.Simple new often) = false
is_wider_element (element.Composite old) (element.Composite new) = is_wider_composite old new

-- row by row; further rows at the end may be empty
abbrev pub are_wider_elements : (old new : List Element) → Bool
are_wider_elements [] new = list_all fits_empty new
are_wider_elements (row ∷ old) [] = false
are_wider_elements (row ∷ old) (next ∷ new) = is_wider_element row next && are_wider_elements old new
