-- X12.6, transaction set: what two lists of nodes say otherwise, node by node.
use Rattle.std.specs.Prelude.{ℕ, zero, suc, ◌==◌, List, [], ◌∷◌, ◌++◌, Bool, Option, Some, None, if◌then◌else◌}
use Rattle.std.specs.List.{list_any}
use Rattle.std.specs.Option.{option_map_or}
use Rattle.guide_tree.specs.declared.node.Loop.{Loop}
use Rattle.guide_tree.specs.declared.slot.Condition.{Condition}
use Rattle.guide_tree.specs.declared.slot.Pick.{Pick}
use Rattle.guide_tree.specs.declared.slot.Slot.{Slot}
use Rattle.guide_tree.specs.Words.{Tree, Trees, segment, loop, no_trees, tree, min_of, max_of, node_number}
use Rattle.guide_widening.specs.declared.difference.At.{At}
use Rattle.guide_widening.specs.declared.difference.Change.TheVariants.{Narrower, Wider, Other}
use Rattle.guide_widening.specs.declared.difference.Difference.{Difference}
use Rattle.guide_widening.specs.declared.difference.Key.TheVariants as key
use Rattle.guide_widening.specs.declared.difference.Value.{Value}
use Rattle.guide_widening.specs.declared.difference.Value.TheVariants as value
use Rattle.guide_widening.specs.Changes.{said, least_change, most_change, label_change, text_value, items_differences}
use Rattle.guide_widening.specs.Nodes.{is_wider_pick, is_same_condition, is_same_node}
use Rattle.guide_widening.specs.RowDifferences.{elements_differences}
use Rattle.guide_widening.specs.Written.{condition_text, pick_text}

abbrev pub at_node : (number : ℕ) → At
at_node number = record { node = number; element = 0; component = 0 }

abbrev pub use_differences : At → (old_min old_max new_min new_max : ℕ) → List Difference
use_differences at old_min old_max new_min new_max =
    said at key.LeastUse (least_change old_min new_min) (value.Number old_min) (value.Number new_min)
    ++ said at key.GreatestUse (most_change old_max new_max) (value.Number old_max) (value.Number new_max)

-- a pick is one of some, with the same codes or more
abbrev pub is_pick_kept : (old : List Pick) → Pick → Bool
is_pick_kept old pick = list_any (λ before. is_wider_pick before pick) old

abbrev pub pick_written : Pick → Value
pick_written pick = value.Text (pick_text pick)

-- what picks ask of the element at a position
abbrev pub pick_at : List Pick → (position : ℕ) → Value
pick_at [] position = value.Nothing
pick_at (pick ∷ picks) position = if pick.position == position then pick_written pick else pick_at picks position

-- what picks ask at the position of another one
abbrev pub pick_beside : List Pick → Pick → Value
pick_beside picks pick = pick_at picks pick.position

-- a new pick is narrower unless it was asked for, an old one wider unless it is asked for; both with what is asked at the position
abbrev pub pick_differences : At → (old new : List Pick) → List Difference
pick_differences at old new =
    items_differences (is_pick_kept old) at key.Pick Narrower (pick_beside old) (pick_beside new) new
    ++ items_differences (is_pick_kept new) at key.Pick Wider (pick_beside old) (pick_beside new) old

-- a new condition is narrower, one that is gone wider
abbrev pub is_condition_in : List Condition → Condition → Bool
is_condition_in conditions condition = list_any (λ other. is_same_condition other condition) conditions

abbrev pub condition_value : Condition → Value
condition_value condition = value.Text (condition_text condition)

abbrev pub condition_differences : At → (old new : List Condition) → List Difference
condition_differences at old new =
    items_differences (is_condition_in old) at key.Condition Narrower (λ c. value.Nothing) condition_value new
    ++ items_differences (is_condition_in new) at key.Condition Wider condition_value (λ c. value.Nothing) old

abbrev pub slot_differences : (old new : Slot) → List Difference
slot_differences old new =
    said (at_node new.number) key.Label (label_change old.label new.label) (text_value old.label) (text_value new.label)
    ++ (use_differences (at_node new.number) old.min old.max new.min new.max
    ++ (pick_differences (at_node new.number) old.picks new.picks
    ++ (elements_differences (at_node new.number) 1 old.elements new.elements
    ++ condition_differences (at_node new.number) old.conditions new.conditions)))

abbrev pub loop_differences : (old new : Loop) → List Difference
loop_differences old new = use_differences (at_node new.number) old.min old.max new.min new.max

-- a node that is new is narrower where it must be there
abbrev pub new_node : Tree → List Difference
new_node t =
    said (at_node (node_number t)) key.Node (Some (if min_of t == 0 then Wider else Narrower)) value.Nothing
    (value.Uses (min_of t) (max_of t))

abbrev pub new_nodes : Trees → List Difference
new_nodes no_trees = []
new_nodes (tree t ts) = new_node t ++ new_nodes ts

abbrev pub gone_node : Tree → List Difference
gone_node t = said (at_node (node_number t)) key.Node (Some Narrower) (value.Uses (min_of t) (max_of t)) value.Nothing

-- a segment and a loop
abbrev pub other_node : (old new : Tree) → List Difference
other_node t u =
    said (at_node (node_number u)) key.Node (Some Other) (value.Uses (min_of t) (max_of t)) (value.Uses (min_of u) (max_of u))

-- how many nodes come before the first that is the same one; all where none is
abbrev pub before_same : Tree → Trees → ℕ
before_same t no_trees = 0
before_same t (tree u us) = if is_same_node t u then 0 else suc (before_same t us)

abbrev pub first_nodes : ℕ → Trees → Trees
first_nodes zero us = no_trees
first_nodes (suc n) no_trees = no_trees
first_nodes (suc n) (tree u us) = tree u (first_nodes n us)

abbrev pub nodes_from : ℕ → Trees → Trees
nodes_from zero us = us
nodes_from (suc n) no_trees = no_trees
nodes_from (suc n) (tree u us) = nodes_from n us

abbrev pub first_of : Trees → Option Tree
first_of no_trees = None
first_of (tree u us) = Some u

-- the first node that is the same one
abbrev pub same_of : Tree → Trees → Option Tree
same_of t us = first_of (nodes_from (before_same t us) us)

-- what is left of some nodes after the first of others; all where there is none of these
abbrev pub left_of : Trees → Trees → Trees
left_of us no_trees = us
left_of us (tree u after) = after

-- the nodes after the same one; all where none is
abbrev pub rest_after : Tree → Trees → Trees
rest_after t us = left_of us (nodes_from (before_same t us) us)

abbrev mutual
  pub node_differences : (old new : Tree) → List Difference
  node_differences (segment s) (segment t) = slot_differences s t
  node_differences (segment s) (loop k us) = other_node (segment s) (loop k us)
  node_differences (loop l ts) (segment t) = other_node (loop l ts) (segment t)
  node_differences (loop l ts) (loop k us) = loop_differences l k ++ nodes_differences ts us

  -- node by node: those before the same one are new, and an old one where none is the same is gone
  pub nodes_differences : (old new : Trees) → List Difference
  nodes_differences no_trees us = new_nodes us
  nodes_differences (tree t ts) us =
      option_map_or (λ u. new_nodes (first_nodes (before_same t us) us) ++ node_differences t u) (same_of t us) (gone_node t)
      ++ nodes_differences ts (rest_after t us)

-- an old node against some new ones
abbrev pub against_differences : (old : Tree) → (new : Trees) → List Difference
against_differences t us =
    option_map_or (λ u. new_nodes (first_nodes (before_same t us) us) ++ node_differences t u) (same_of t us) (gone_node t)
