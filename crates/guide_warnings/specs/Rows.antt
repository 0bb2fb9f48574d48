-- X12.6, segment (own): the warnings of the rows of a segment position, element by element, and then of its picks.
use Rattle.std.specs.Prelude.{ℕ, ◌+◌, ◌-◌, ◌==◌, List, [], ◌∷◌, ◌++◌, Option, Some, None, if◌then◌else◌, option_and_then, slice_get}
use Rattle.std.specs.Option.{option_map_or}
use Rattle.guide_tree.specs.declared.element.CodeList.{CodeList}
use Rattle.guide_tree.specs.declared.element.Component.{Component}
use Rattle.guide_tree.specs.declared.element.Component.TheVariants as component
use Rattle.guide_tree.specs.declared.element.Element.{Element}
use Rattle.guide_tree.specs.declared.element.Element.TheVariants as element
use Rattle.guide_tree.specs.declared.element.SimpleRow.{SimpleRow}
use Rattle.guide_tree.specs.declared.slot.Pick.{Pick}
use Rattle.guide_tree.specs.declared.slot.Slot.{Slot}
use Rattle.guide_warnings.specs.Codes.{code_warnings}
use Rattle.guide_warnings.specs.declared.warning.At.{At}
use Rattle.guide_warnings.specs.declared.warning.CodeDoubt.TheVariants as doubt
use Rattle.guide_warnings.specs.declared.warning.Warning.{Warning}

abbrev pub at_element : (position : ℕ) → At
at_element position = record { element = position; component = 0 }

abbrev pub listed_warnings : Slot → At → SimpleRow → (listed : List (List ℕ)) → List Warning
listed_warnings s at row listed =
    code_warnings s at doubt.Joined row listed
    ++ (code_warnings s at doubt.OtherForm row listed ++ code_warnings s at doubt.OtherLength row listed)

abbrev pub unused_warnings : Slot → At → SimpleRow → CodeList → List Warning
unused_warnings s at row c = option_map_or (listed_warnings s at row) c.unused []

-- of the codes in use, of those that are used and not used, of those not used
abbrev pub codes_warnings : Slot → At → SimpleRow → CodeList → List Warning
codes_warnings s at row c =
    listed_warnings s at row c.used ++ (code_warnings s at doubt.AlsoUnused row c.used ++ unused_warnings s at row c)

abbrev pub row_warnings : Slot → At → SimpleRow → List Warning
row_warnings s at row = option_map_or (codes_warnings s at row) row.codes []

abbrev pub component_warnings : Slot → At → Component → List Warning
component_warnings s at (component.NotUsed reference) = []
component_warnings s at (component.Simple row) = row_warnings s at row

abbrev pub components_warnings : Slot → (element number : ℕ) → List Component → List Warning
components_warnings s element number [] = []
components_warnings s element number (c ∷ cs) =
    component_warnings s (record { element = element; component = number }) c ++ components_warnings s element (number + 1) cs

abbrev pub element_warnings : Slot → (position : ℕ) → Element → List Warning
element_warnings s position (element.NotUsed reference) = []
element_warnings s position (element.Simple row repeat) = row_warnings s (at_element position) row
element_warnings s position (element.Composite c) = components_warnings s position 1 c.components

abbrev pub elements_warnings : Slot → (position : ℕ) → List Element → List Warning
elements_warnings s position [] = []
elements_warnings s position (e ∷ es) = element_warnings s position e ++ elements_warnings s (position + 1) es

abbrev pub simple_row : Element → Option SimpleRow
simple_row (element.NotUsed reference) = None
simple_row (element.Simple row repeat) = Some row
simple_row (element.Composite c) = None

-- the row of the simple element at a position, from 1 on
abbrev pub row_at : Slot → (position : ℕ) → Option SimpleRow
row_at s position = if position == 0 then None else option_and_then simple_row (slice_get s.elements (position - 1))

-- of the codes that it picks by
abbrev pub pick_warnings : Slot → Pick → List Warning
pick_warnings s p =
    option_map_or
    (λ row. code_warnings s (at_element p.position) doubt.Joined row p.codes
    ++ code_warnings s (at_element p.position) doubt.NotListed row p.codes)
    (row_at s p.position) []

abbrev pub picks_warnings : Slot → List Pick → List Warning
picks_warnings s [] = []
picks_warnings s (p ∷ ps) = pick_warnings s p ++ picks_warnings s ps

abbrev pub slot_warnings : Slot → List Warning
slot_warnings s = elements_warnings s 1 s.elements ++ picks_warnings s s.picks
