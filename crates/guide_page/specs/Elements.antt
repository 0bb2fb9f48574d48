-- The elements of a segment (own words): a row of a table for each, and for each component of a composite.
use Rattle.std.specs.Prelude.{ℕ, zero, suc, ◌+◌, ◌==◌, nat_lt, Bool, true, false, Option, None, Some, List, [], ◌∷◌, ◌++◌, codes, decimal}
use Rattle.std.specs.Prelude.{if◌then◌else◌}
use Rattle.guide_tree.specs.declared.element.ElementType.{ElementType}
use Rattle.guide_tree.specs.declared.element.ElementType.TheVariants.{Text, Identifier, Number, Decimal, Date, Time}
use Rattle.guide_tree.specs.declared.element.Requirement.{Requirement}
use Rattle.guide_tree.specs.declared.element.Requirement.TheVariants.{Mandatory, Optional}
use Rattle.guide_tree.specs.declared.element.CodeList.{CodeList}
use Rattle.guide_tree.specs.declared.element.SimpleRow.{SimpleRow}
use Rattle.guide_tree.specs.declared.element.CompositeRow.{CompositeRow}
use Rattle.guide_tree.specs.declared.element.Component.{Component}
use Rattle.guide_tree.specs.declared.element.Component.TheVariants as component
use Rattle.guide_tree.specs.declared.element.Element.{Element}
use Rattle.guide_tree.specs.declared.element.Element.TheVariants as element
use Rattle.std.specs.List.{flat_map}
use Rattle.guide_names.specs.Names.{Words}
use Rattle.guide_page.specs.Named.{named_code, reference_cell}
use Rattle.guide_page.specs.Tags.{cell, row_head}

abbrev pub requirement_words : Requirement → List ℕ
requirement_words Mandatory = codes "must"
requirement_words Optional = codes "may"

abbrev pub number_words : (places : ℕ) → List ℕ
number_words places = codes "number, decimals implied: " ++ (decimal places ++ (codes " (N" ++ (decimal places ++ codes ")")))

abbrev pub type_words : ElementType → List ℕ
type_words Text = codes "text (AN)"
type_words Identifier = codes "code (ID)"
type_words (Number places) = number_words places
type_words Decimal = codes "decimal number (R)"
type_words Date = codes "date (DT)"
type_words Time = codes "time (TM)"

-- bytes from 0x80 on
abbrev pub wide_words : Bool → List ℕ
wide_words true = codes ", other alphabets too"
wide_words false = []

-- from the least to the greatest
abbrev pub range_words : (least most : ℕ) → List ℕ
range_words least most = if least == most then decimal most else decimal least ++ (codes " to " ++ decimal most)

abbrev pub unused_texts : Words → (reference : List ℕ) → List (List ℕ) → List ℕ
unused_texts names reference texts = codes "<br>not used: " ++ flat_map (named_code names reference) texts

abbrev pub unused_part : Words → (reference : List ℕ) → Option (List (List ℕ)) → List ℕ
unused_part names reference None = []
unused_part names reference (Some texts) = unused_texts names reference texts

abbrev pub values_of : Words → (reference : List ℕ) → CodeList → List ℕ
values_of names reference list = flat_map (named_code names reference) list.used ++ unused_part names reference list.unused

abbrev pub values_part : Words → (reference : List ℕ) → Option CodeList → List ℕ
values_part names reference None = []
values_part names reference (Some list) = values_of names reference list

-- a position in two digits or more
abbrev pub two_digits : ℕ → List ℕ
two_digits n = (if nat_lt n 10 then codes "0" else []) ++ decimal n

-- the id of a segment and an element's position; in a composite the component's position after it
abbrev pub element_name : (id : List ℕ) → (position : ℕ) → List ℕ
element_name id position = id ++ two_digits position

abbrev pub component_name : (name : List ℕ) → (position : ℕ) → List ℕ
component_name name position = name ++ (codes "-" ++ two_digits position)

abbrev pub use_cell : Requirement → List ℕ
use_cell requirement = cell (requirement_words requirement)

abbrev pub type_cell : SimpleRow → List ℕ
type_cell r = cell (type_words r.data_type ++ wide_words r.wide)

abbrev pub range_cell : (least most : ℕ) → List ℕ
range_cell least most = cell (range_words least most)

abbrev pub number_cell : ℕ → List ℕ
number_cell n = cell (decimal n)

abbrev pub value_cell : Words → (reference : List ℕ) → Option CodeList → List ℕ
value_cell names reference list = codes "<td>" ++ (values_part names reference list ++ codes "</td></tr>\n")

abbrev pub unused_row : Words → (name reference : List ℕ) → List ℕ
unused_row names name reference =
    row_head name
    ++ (reference_cell names reference ++ codes "<td>not used</td><td></td><td></td><td></td><td></td></tr>\n")

abbrev pub simple_row : Words → (name : List ℕ) → SimpleRow → (times : ℕ) → List ℕ
simple_row names name r times =
    row_head name ++ (reference_cell names r.reference ++ (use_cell r.requirement ++ (type_cell r ++ (range_cell r.min r.max
    ++ (number_cell times ++ value_cell names r.reference r.codes)))))

abbrev pub composite_row : Words → (name : List ℕ) → CompositeRow → List ℕ
composite_row names name r =
    row_head name ++ (reference_cell names r.reference ++ (use_cell r.requirement ++ (codes "<td>composite</td><td></td>"
    ++ (number_cell r.repeat ++ codes "<td></td></tr>\n"))))

abbrev pub component_row : Words → (name : List ℕ) → Component → List ℕ
component_row names name (component.NotUsed reference) = unused_row names name reference
component_row names name (component.Simple r) = simple_row names name r 1

-- components from a position on
abbrev pub component_rows : Words → (name : List ℕ) → (position : ℕ) → List Component → List ℕ
component_rows names name position [] = []
component_rows names name position (c ∷ cs) =
    component_row names (component_name name position) c ++ component_rows names name (position + 1) cs

abbrev pub element_rows_of : Words → (name : List ℕ) → Element → List ℕ
element_rows_of names name (element.NotUsed reference) = unused_row names name reference
element_rows_of names name (element.Simple r repeat) = simple_row names name r repeat
element_rows_of names name (element.Composite r) = composite_row names name r ++ component_rows names name 1 r.components

-- elements from a position on
abbrev pub element_rows : Words → (id : List ℕ) → (position : ℕ) → List Element → List ℕ
element_rows names id position [] = []
element_rows names id position (e ∷ es) =
    element_rows_of names (element_name id position) e ++ element_rows names id (position + 1) es
