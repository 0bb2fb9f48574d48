use Rattle.std.proofs.Common.{◌≡◌, drop}
use Rattle.guide_tree.specs.Words.{find_slot, nodes_view}
use Rattle.guide_warnings.specs.Dictionary.{has_id}
use Rattle.guide_warnings.proofs.dictionary.+slot_with.Given as goal

abbrev pub decreases-slot_with : goal.decreases-slot_with
decreases-slot_with l = goal.size-slot_with l

abbrev pub invariant-loop-node : goal.invariant-loop-node
invariant-loop-node l =
    find_slot (has_id l.id) (nodes_view (drop l.node-index l.nodes)) ≡ find_slot (has_id l.id) (nodes_view l.nodes)
