use Rattle.std.proofs.Common.{◌≡◌, ◌++◌, drop}
use Rattle.guide_tree.specs.Words.{nodes_view}
use Rattle.elem_rules.specs.NodeSlots.{lent_slots, slots_of}
use Rattle.elem_rules.proofs.slot_tables.+add_slots.Given as goal

abbrev pub decreases-add_slots : goal.decreases-add_slots
decreases-add_slots l = goal.size-add_slots l

abbrev pub invariant-loop-node : goal.invariant-loop-node
invariant-loop-node l =
    lent_slots l.slots.items ++ slots_of (nodes_view (drop l.node-index l.nodes))
    ≡ lent_slots l.fn.slots.items ++ slots_of (nodes_view l.nodes)
