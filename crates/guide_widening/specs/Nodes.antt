-- X12.6, transaction set: new nodes take each order of segments that the old ones take.
use Rattle.std.specs.Prelude.{ℕ, ◌==◌, List, Bool, true, false, ◌&&◌, Option, Some, None, if◌then◌else◌}
use Rattle.std.specs.List.{list_all, list_any}
use Rattle.std.specs.Str.{bytes_eq}
use Rattle.guide_tree.specs.declared.slot.Slot.{Slot}
use Rattle.guide_tree.specs.declared.slot.Pick.{Pick}
use Rattle.guide_tree.specs.declared.slot.Condition.{Condition}
use Rattle.guide_tree.specs.declared.slot.Relation.{Relation}
use Rattle.guide_tree.specs.declared.slot.Relation.TheVariants.{Paired, Required, Exclusion, Conditional, ListConditional}
use Rattle.guide_tree.specs.declared.node.Loop.{Loop}
use Rattle.guide_tree.specs.Words.{Tree, Trees, segment, loop, no_trees, tree, min_of, can_fit_both}
use Rattle.guide_widening.specs.Rows.{are_texts_of, is_wider_range, are_wider_elements}

-- an old pick of the same element has no other codes
abbrev pub is_wider_pick : (old new : Pick) → Bool
is_wider_pick old new = (old.position == new.position) && are_texts_of new.codes old.codes

-- each new pick is an old one, with the same codes or more
abbrev pub are_wider_picks : (old new : List Pick) → Bool
are_wider_picks old new = list_all (λ pick. list_any (λ before. is_wider_pick before pick) old) new

abbrev pub relation_number : Relation → ℕ
relation_number Paired = 0
relation_number Required = 1
relation_number Exclusion = 2
relation_number Conditional = 3
relation_number ListConditional = 4

abbrev pub is_same_condition : Condition → Condition → Bool
is_same_condition c d = (relation_number c.relation == relation_number d.relation) && bytes_eq c.positions d.positions

-- each new condition is an old one
abbrev pub are_wider_conditions : (old new : List Condition) → Bool
are_wider_conditions old new = list_all (λ condition. list_any (λ before. is_same_condition before condition) old) new

-- both have the text, or neither has any
abbrev pub is_same_text : Option (List ℕ) → Option (List ℕ) → Bool
is_same_text None None = true
is_same_text None (Some text) = false
is_same_text (Some text) None = false
is_same_text (Some text) (Some other) = bytes_eq text other

-- the same segment by the same label, whose use, picks, elements and conditions are at most as strict
abbrev pub is_wider_slot : (old new : Slot) → Bool
is_wider_slot old new =
    bytes_eq old.id new.id
    && is_same_text old.label new.label
    && is_wider_range old.min old.max new.min new.max
    && are_wider_picks old.picks new.picks
    && are_wider_elements old.elements new.elements
    && are_wider_conditions old.conditions new.conditions

abbrev pub is_wider_loop : (old new : Loop) → Bool
is_wider_loop old new = bytes_eq old.id new.id && is_wider_range old.min old.max new.min new.max

-- two nodes are the same one in two guides: segments that some segment fits both, or loops with one id that begin so
abbrev pub begins_alike : Trees → Trees → Bool
begins_alike (tree (segment s) ts) (tree (segment t) us) = can_fit_both s t
begins_alike ts us = false

abbrev pub is_same_node : Tree → Tree → Bool
is_same_node (segment s) (segment t) = can_fit_both s t
is_same_node (segment s) (loop k us) = false
is_same_node (loop l ts) (segment t) = false
is_same_node (loop l ts) (loop k us) = bytes_eq l.id k.id && begins_alike ts us

abbrev mutual
  pub is_wider_node : (old new : Tree) → Bool
  is_wider_node (segment s) (segment t) = is_wider_slot s t
  is_wider_node (segment s) (loop k us) = false
  is_wider_node (loop l ts) (segment t) = false
  is_wider_node (loop l ts) (loop k us) = is_wider_loop l k && are_wider_nodes ts us

  -- each old node is there in its order and at most as strict, and each that is new may be absent
  pub are_wider_nodes : (old new : Trees) → Bool
  are_wider_nodes no_trees no_trees = true
  are_wider_nodes no_trees (tree u us) = (min_of u == 0) && are_wider_nodes no_trees us
  are_wider_nodes (tree t ts) no_trees = false
  are_wider_nodes (tree t ts) (tree u us) =
      if is_same_node t u then is_wider_node t u && are_wider_nodes ts us
      else (min_of u == 0) && are_wider_nodes (tree t ts) us
