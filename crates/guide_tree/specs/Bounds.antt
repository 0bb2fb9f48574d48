-- X12.6, segment and data element: the bounds that the rows of a guide keep to (their greatest values are own).
use Rattle.std.specs.Prelude.{ℕ, nat_le, List, [], ◌∷◌, codes, length, Bool, true, ◌&&◌, not}
use Rattle.std.specs.List.{list_all}
use Rattle.std.specs.Option.{option_map_or}
use Rattle.hub_kinds.specs.declared.limits.TheConstants.{MOST_COMPONENTS, MOST_ELEMENTS, MOST_REPEATS}
use Rattle.hub_kinds.specs.Words.{is_word, is_segment_id, contains_text}
use Rattle.guide_tree.specs.declared.limits.TheConstants.{LONGEST_ELEMENT, MOST_USES}
use Rattle.guide_tree.specs.declared.element.CodeList.{CodeList}
use Rattle.guide_tree.specs.declared.element.SimpleRow.{SimpleRow}
use Rattle.guide_tree.specs.declared.element.Component.{Component}
use Rattle.guide_tree.specs.declared.element.Component.TheVariants as component
use Rattle.guide_tree.specs.declared.element.Element.{Element}
use Rattle.guide_tree.specs.declared.element.Element.TheVariants as element
use Rattle.guide_tree.specs.declared.slot.Slot.{Slot}
use Rattle.guide_tree.specs.declared.node.Loop.{Loop}
use Rattle.guide_tree.specs.Tree.{Tree, segment, loop}

-- a number from lo to hi
abbrev pub is_within : ℕ → ℕ → ℕ → Bool
is_within lo hi n = nat_le lo n && nat_le n hi

-- the least use isn't more than the greatest, which is at most 999,999
abbrev pub is_use_range : ℕ → ℕ → Bool
is_use_range least most = nat_le least most && nat_le most MOST_USES

-- the least length is 1 or more and no more than the greatest, which is at most 9,999
abbrev pub is_length_range : ℕ → ℕ → Bool
is_length_range least most = nat_le 1 least && nat_le least most && nat_le most LONGEST_ELEMENT

-- the segments round groups and sets
abbrev pub envelope_ids : List (List ℕ)
envelope_ids = codes "ISA" ∷ codes "IEA" ∷ codes "GS" ∷ codes "GE" ∷ codes "ST" ∷ codes "SE" ∷ []

-- 2 or 3 upper-case letters or digits, and no segment of an envelope
abbrev pub is_slot_id : List ℕ → Bool
is_slot_id id = is_segment_id id && not (contains_text envelope_ids id)

-- 1 to 4 letters or digits
abbrev pub is_loop_id : List ℕ → Bool
is_loop_id id = is_word 1 4 id

-- some codes
abbrev pub has_codes : List (List ℕ) → Bool
has_codes texts = nat_le 1 (length texts)

abbrev pub are_codes_bounded : CodeList → Bool
are_codes_bounded c = has_codes c.used && option_map_or has_codes c.unused true

abbrev pub is_row_bounded : SimpleRow → Bool
is_row_bounded r = is_length_range r.min r.max && option_map_or are_codes_bounded r.codes true

abbrev pub is_component_bounded : Component → Bool
is_component_bounded (component.NotUsed reference) = true
is_component_bounded (component.Simple row) = is_row_bounded row

abbrev pub is_repeat : ℕ → Bool
is_repeat n = is_within 1 MOST_REPEATS n

abbrev pub is_element_bounded : Element → Bool
is_element_bounded (element.NotUsed reference) = true
is_element_bounded (element.Simple row repeat) = is_repeat repeat && is_row_bounded row
is_element_bounded (element.Composite c) =
    is_repeat c.repeat && nat_le (length c.components) MOST_COMPONENTS && list_all is_component_bounded c.components

abbrev pub is_slot_bounded : Slot → Bool
is_slot_bounded s =
    is_use_range s.min s.max && is_slot_id s.id && nat_le (length s.elements) MOST_ELEMENTS
    && list_all is_element_bounded s.elements

abbrev pub is_loop_bounded : Loop → Bool
is_loop_bounded l = is_use_range l.min l.max && is_loop_id l.id

-- the node's own bounds
abbrev pub is_bounded : Tree → Bool
is_bounded (segment s) = is_slot_bounded s
is_bounded (loop l ts) = is_loop_bounded l
