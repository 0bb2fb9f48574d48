-- X12.6, segment and data element (own): the first of a node's bounds that it doesn't keep, in the order of the bounds.
use Rattle.std.specs.Prelude.{ℕ, ◌+◌, ◌==◌, Bool, false, nat_lt, not, List, [], ◌∷◌, length, Option, Some, None, if◌then◌else◌, option_map}
use Rattle.std.specs.Prelude.{option_and_then}
use Rattle.std.specs.Option.{option_map_or}
use Rattle.hub_kinds.specs.declared.limits.TheConstants.{MOST_COMPONENTS, MOST_ELEMENTS}
use Rattle.guide_tree.specs.Words as guide
use Rattle.guide_tree.specs.Words.{Tree, has_codes, is_loop_id, is_slot_id, loop, or_else, segment}
use Rattle.guide_tree.specs.declared.limits.TheConstants.{LONGEST_ELEMENT, MOST_USES}
use Rattle.guide_tree.specs.declared.element.CodeList.{CodeList}
use Rattle.guide_tree.specs.declared.element.Component.{Component}
use Rattle.guide_tree.specs.declared.element.Component.TheVariants as component
use Rattle.guide_tree.specs.declared.element.CompositeRow.{CompositeRow}
use Rattle.guide_tree.specs.declared.element.Element.{Element}
use Rattle.guide_tree.specs.declared.element.Element.TheVariants as element
use Rattle.guide_tree.specs.declared.element.SimpleRow.{SimpleRow}
use Rattle.guide_tree.specs.declared.node.Loop.{Loop}
use Rattle.guide_tree.specs.declared.slot.Slot.{Slot}
use Rattle.setup_errors.specs.declared.bounds.ElementCause.{ElementCause}
use Rattle.setup_errors.specs.declared.bounds.ElementCause.TheVariants as in_element
use Rattle.setup_errors.specs.declared.bounds.NodeCause.{NodeCause}
use Rattle.setup_errors.specs.declared.bounds.NodeCause.TheVariants as in_node
use Rattle.setup_errors.specs.declared.bounds.RowCause.{RowCause}
use Rattle.setup_errors.specs.declared.bounds.RowCause.TheVariants as in_row

abbrev pub use_cause : (least most : ℕ) → Option NodeCause
use_cause least most =
    if nat_lt most least then Some (in_node.LeastOverMost least most)
    else (if nat_lt MOST_USES most then Some (in_node.MostTooLarge most) else None)

abbrev pub codes_cause : CodeList → Option RowCause
codes_cause c =
    if not (has_codes c.used) then Some in_row.NoCode
    else (if option_map_or (λ unused. not (has_codes unused)) c.unused false then Some in_row.NoUnusedCode else None)

abbrev pub row_cause : SimpleRow → Option RowCause
row_cause r =
    if r.min == 0 then Some in_row.ShortestIsZero
    else (if nat_lt r.max r.min then Some (in_row.ShortestOverLongest r.min r.max)
    else (if nat_lt LONGEST_ELEMENT r.max then Some (in_row.LongestTooLong r.max)
    else option_and_then codes_cause r.codes))

abbrev pub component_cause : (number : ℕ) → Component → Option ElementCause
component_cause number (component.NotUsed reference) = None
component_cause number (component.Simple row) = option_map (λ cause. in_element.Component number cause) (row_cause row)

abbrev pub components_cause : (number : ℕ) → List Component → Option ElementCause
components_cause number [] = None
components_cause number (c ∷ cs) = or_else (component_cause number c) (components_cause (number + 1) cs)

abbrev pub is_repeat : ℕ → Bool
is_repeat n = guide.is_repeat n

abbrev pub composite_cause : CompositeRow → Option ElementCause
composite_cause c =
    if not (is_repeat c.repeat) then Some (in_element.Repeat c.repeat)
    else (if nat_lt MOST_COMPONENTS (length c.components) then Some (in_element.ManyComponents (length c.components))
    else components_cause 1 c.components)

abbrev pub simple_cause : SimpleRow → (repeat : ℕ) → Option ElementCause
simple_cause row repeat =
    if not (is_repeat repeat) then Some (in_element.Repeat repeat) else option_map (λ cause. in_element.Row cause) (row_cause row)

abbrev pub element_cause : Element → Option ElementCause
element_cause (element.NotUsed reference) = None
element_cause (element.Simple row repeat) = simple_cause row repeat
element_cause (element.Composite c) = composite_cause c

abbrev pub numbered_cause : (number : ℕ) → Element → Option NodeCause
numbered_cause number e = option_map (λ cause. in_node.Element number cause) (element_cause e)

abbrev pub elements_cause : (number : ℕ) → List Element → Option NodeCause
elements_cause number [] = None
elements_cause number (e ∷ es) = or_else (numbered_cause number e) (elements_cause (number + 1) es)

abbrev pub rows_cause : Slot → Option NodeCause
rows_cause s =
    if not (is_slot_id s.id) then Some in_node.SegmentId
    else (if nat_lt MOST_ELEMENTS (length s.elements) then Some (in_node.ManyElements (length s.elements)) else elements_cause 1 s.elements)

abbrev pub slot_cause : Slot → Option NodeCause
slot_cause s = or_else (use_cause s.min s.max) (rows_cause s)

abbrev pub loop_cause : Loop → Option NodeCause
loop_cause l = or_else (use_cause l.min l.max) (if not (is_loop_id l.id) then Some in_node.LoopId else None)

abbrev pub bounds_cause : Tree → Option NodeCause
bounds_cause (segment s) = slot_cause s
bounds_cause (loop l ts) = loop_cause l
