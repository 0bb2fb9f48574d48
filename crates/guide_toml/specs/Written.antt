-- The guide file (own): the text that writes a data element's row.
use Rattle.std.specs.Prelude.{ℕ, ◌+◌, ◌==◌, List, [], ◌∷◌, ◌++◌, codes, decimal, Option, Some, None, Bool, true, false, ◌&&◌, ◌||◌}
use Rattle.std.specs.Prelude.{nat_le, if◌then◌else◌}
use Rattle.std.specs.List.{list_all, flat_map, join_with_byte}
use Rattle.std.specs.Str.{bytes_eq}
use Rattle.hub_kinds.specs.Words.{is_number}
use Rattle.guide_tree.specs.declared.element.ElementType.{ElementType}
use Rattle.guide_tree.specs.declared.element.ElementType.TheVariants as types
use Rattle.guide_tree.specs.declared.element.Requirement.{Requirement}
use Rattle.guide_tree.specs.declared.element.Requirement.TheVariants as requirement
use Rattle.guide_tree.specs.declared.element.CodeList.{CodeList}
use Rattle.guide_tree.specs.declared.element.SimpleRow.{SimpleRow}
use Rattle.guide_tree.specs.declared.element.Component.{Component}
use Rattle.guide_tree.specs.declared.element.Component.TheVariants as component
use Rattle.guide_tree.specs.declared.element.Element.{Element}
use Rattle.guide_tree.specs.declared.element.Element.TheVariants as element
use Rattle.guide_toml.specs.Tokens.{is_code}
use Rattle.toml_keys.specs.declared.values.TheConstants.{GREATEST_NUMBER}

-- the reference number, or `-` for none
abbrev pub reference_text : List ℕ → List ℕ
reference_text [] = codes "-"
reference_text (d ∷ ds) = d ∷ ds

abbrev pub requirement_text : Requirement → List ℕ
requirement_text requirement.Mandatory = codes "M"
requirement_text requirement.Optional = codes "O"

abbrev pub type_text : ElementType → List ℕ
type_text types.Text = codes "AN"
type_text types.Identifier = codes "ID"
type_text (types.Number n) = 78 ∷ (48 + n) ∷ []
type_text types.Decimal = codes "R"
type_text types.Date = codes "DT"
type_text types.Time = codes "TM"

-- how often an element may occur; once isn't written
abbrev pub repeat_tokens : ℕ → List (List ℕ)
repeat_tokens n = if n == 1 then [] else (120 ∷ decimal n) ∷ []

abbrev pub wide_tokens : Bool → List (List ℕ)
wide_tokens true = codes "wide" ∷ []
wide_tokens false = []

-- the codes that aren't used, after `!`
abbrev pub unused_tokens : Option (List (List ℕ)) → List (List ℕ)
unused_tokens None = []
unused_tokens (Some values) = codes "!" ∷ values

-- the codes that are used, after `=`, and after them those that aren't
abbrev pub code_tokens : Option CodeList → List (List ℕ)
code_tokens None = []
code_tokens (Some c) = codes "=" ∷ (c.used ++ unused_tokens c.unused)

-- reference number, requirement, type and lengths; how often; `wide`; codes
abbrev pub row_tokens : SimpleRow → (repeat : ℕ) → List (List ℕ)
row_tokens row repeat =
    reference_text row.reference ∷ requirement_text row.requirement ∷ type_text row.data_type ∷ decimal row.min ∷ decimal row.max
    ∷ (repeat_tokens repeat ++ (wide_tokens row.wide ++ code_tokens row.codes))

abbrev pub not_used_tokens : List ℕ → List (List ℕ)
not_used_tokens reference = reference_text reference ∷ codes "N" ∷ []

abbrev pub component_tokens : Component → List (List ℕ)
component_tokens (component.NotUsed reference) = not_used_tokens reference
component_tokens (component.Simple row) = row_tokens row 1

-- each component after a semicolon
abbrev pub components_tokens : List Component → List (List ℕ)
components_tokens components = flat_map (λ c. codes ";" ∷ component_tokens c) components

abbrev pub element_tokens : Element → List (List ℕ)
element_tokens (element.NotUsed reference) = not_used_tokens reference
element_tokens (element.Simple row repeat) = row_tokens row repeat
element_tokens (element.Composite c) =
    reference_text c.reference ∷ requirement_text c.requirement ∷ codes "C"
    ∷ (repeat_tokens c.repeat ++ components_tokens c.components)

-- with one space between two tokens
abbrev pub element_text : Element → List ℕ
element_text e = join_with_byte 32 (element_tokens e)

-- Which rows a text can write: reference numbers of 1 to 4 digits or none, N0 to N9, numbers up to 4,294,967,295, codes of the
-- bytes that codes may have.
abbrev pub is_reference : List ℕ → Bool
is_reference reference = bytes_eq reference [] || is_number 4 reference

abbrev pub is_type : ElementType → Bool
is_type (types.Number n) = nat_le n 9
is_type types.Text = true
is_type types.Identifier = true
is_type types.Decimal = true
is_type types.Date = true
is_type types.Time = true

abbrev pub is_count : ℕ → Bool
is_count n = nat_le n GREATEST_NUMBER

abbrev pub are_unused_codes : Option (List (List ℕ)) → Bool
are_unused_codes None = true
are_unused_codes (Some values) = list_all is_code values

abbrev pub are_listed_codes : Option CodeList → Bool
are_listed_codes None = true
are_listed_codes (Some c) = list_all is_code c.used && are_unused_codes c.unused

abbrev pub is_row : SimpleRow → Bool
is_row row =
    is_reference row.reference && is_type row.data_type && is_count row.min && is_count row.max && are_listed_codes row.codes

abbrev pub is_component : Component → Bool
is_component (component.NotUsed reference) = is_reference reference
is_component (component.Simple row) = is_row row

abbrev pub is_writable : Element → Bool
is_writable (element.NotUsed reference) = is_reference reference
is_writable (element.Simple row repeat) = is_row row && is_count repeat
is_writable (element.Composite c) = is_reference c.reference && is_count c.repeat && list_all is_component c.components
