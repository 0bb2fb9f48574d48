use Rattle.std.proofs.Common.{◌≡◌, drop}
use Rattle.guide_tree.specs.Conditions.{labelled}
use Rattle.guide_tree.specs.View.{nodes_view}
use Rattle.guide_tree.proofs.lookup.+slot_labelled.Given as goal

abbrev pub decreases-slot_labelled : goal.decreases-slot_labelled
decreases-slot_labelled l = goal.size-slot_labelled l

abbrev pub invariant-loop-node : goal.invariant-loop-node
invariant-loop-node l =
    labelled (nodes_view (drop l.node-index l.nodes)) l.label ≡ labelled (nodes_view l.nodes) l.label
