use Rattle.std.proofs.Common.{◌≡◌, drop}
use Rattle.guide_tree.specs.Slots.{slot_numbered}
use Rattle.guide_tree.specs.View.{nodes_view}
use Rattle.guide_tree.proofs.lookup.+slot_numbered.Given as goal

abbrev pub decreases-slot_numbered : goal.decreases-slot_numbered
decreases-slot_numbered l = goal.size-slot_numbered l

abbrev pub invariant-loop-node : goal.invariant-loop-node
invariant-loop-node l = slot_numbered (nodes_view (drop l.node-index l.nodes)) l.number ≡ slot_numbered (nodes_view l.nodes) l.number
