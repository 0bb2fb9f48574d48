use Rattle.std.proofs.Common.{◌≡◌, drop}
use Rattle.guide_tree.specs.Tree.{find_slot}
use Rattle.guide_tree.specs.Conditions.{is_hierarchy_slot}
use Rattle.guide_tree.specs.View.{nodes_view}
use Rattle.guide_tree.proofs.lookup.+hierarchy_slot.Given as goal

abbrev pub decreases-hierarchy_slot : goal.decreases-hierarchy_slot
decreases-hierarchy_slot l = goal.size-hierarchy_slot l

abbrev pub invariant-loop-node : goal.invariant-loop-node
invariant-loop-node l =
    find_slot is_hierarchy_slot (nodes_view (drop l.node-index l.nodes)) ≡ find_slot is_hierarchy_slot
    (nodes_view l.nodes)
