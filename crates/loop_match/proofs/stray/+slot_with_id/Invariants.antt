use Rattle.std.proofs.Common.{◌≡◌, drop}
use Rattle.std.specs.Str.{bytes_eq}
use Rattle.guide_tree.specs.Words.{find_slot, nodes_view}
use Rattle.loop_match.proofs.stray.+slot_with_id.Given as goal

abbrev pub decreases-slot_with_id : goal.decreases-slot_with_id
decreases-slot_with_id l = goal.size-slot_with_id l

abbrev pub invariant-loop-node : goal.invariant-loop-node
invariant-loop-node l =
    find_slot (λ slot. bytes_eq slot.id l.id) (nodes_view (drop l.node-index l.nodes))
    ≡ find_slot (λ slot. bytes_eq slot.id l.id) (nodes_view l.nodes)
