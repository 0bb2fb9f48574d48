-- X12.6, code lists, segments and loops (own): the elements by which no set can meet a guide.
use Rattle.std.specs.Prelude.{ℕ, ◌==◌, Bool, true, false, ◌&&◌, not, List, [], ◌∷◌, ◌++◌, if◌then◌else◌}
use Rattle.std.specs.List.{list_all, position_from}
use Rattle.std.specs.Option.{option_map_or}
use Rattle.guide_tree.specs.Words.{Tree, Trees, loop, no_trees, segment, tree}
use Rattle.guide_tree.specs.declared.element.CodeList.{CodeList}
use Rattle.guide_tree.specs.declared.element.Element.{Element}
use Rattle.guide_tree.specs.declared.element.Element.TheVariants as element
use Rattle.guide_tree.specs.declared.element.Requirement.{Requirement}
use Rattle.guide_tree.specs.declared.element.Requirement.TheVariants.{Mandatory, Optional}
use Rattle.guide_tree.specs.declared.element.SimpleRow.{SimpleRow}
use Rattle.guide_tree.specs.declared.slot.Slot.{Slot}
use Rattle.guide_warnings.specs.Codes.{has_form, has_length}
use Rattle.guide_warnings.specs.declared.warning.UnmetWarning.{UnmetWarning}
use Rattle.guide_warnings.specs.declared.warning.Warning.{Warning}
use Rattle.guide_warnings.specs.declared.warning.Warning.TheVariants as warning

abbrev pub is_mandatory : Requirement → Bool
is_mandatory Mandatory = true
is_mandatory Optional = false

-- a value may be this code
abbrev pub may_stand : SimpleRow → List ℕ → Bool
may_stand row code = has_form row code && has_length row code

abbrev pub may_none_stand : SimpleRow → CodeList → Bool
may_none_stand row c = list_all (λ code. not (may_stand row code)) c.used

-- it is mandatory, and has a list of codes of which its type or its lengths allow none
abbrev pub is_unmet_row : SimpleRow → Bool
is_unmet_row row = is_mandatory row.requirement && option_map_or (may_none_stand row) row.codes false

abbrev pub is_unmet_element : Element → Bool
is_unmet_element (element.NotUsed reference) = false
is_unmet_element (element.Simple row repeat) = is_unmet_row row
is_unmet_element (element.Composite c) = false

abbrev pub unmet_warning : Slot → (position : ℕ) → Warning
unmet_warning s position = warning.Unmet (record { slot = s.number; id = s.id; element = position })

-- the first such element of a segment position
abbrev pub unmet_slot : Slot → List Warning
unmet_slot s = option_map_or (λ n. unmet_warning s n ∷ []) (position_from is_unmet_element 1 s.elements) []

-- of the segment positions that each set needs: mandatory, and so is each loop round them
abbrev mutual
  pub unmet_node : Tree → List Warning
  unmet_node (segment s) = if s.min == 0 then [] else unmet_slot s
  unmet_node (loop l ts) = if l.min == 0 then [] else unmet_nodes ts

  pub unmet_nodes : Trees → List Warning
  unmet_nodes no_trees = []
  unmet_nodes (tree t ts) = unmet_node t ++ unmet_nodes ts
