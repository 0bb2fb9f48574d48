use Rattle.std.proofs.Common.{◌≡◌, drop}
use Rattle.guide_tree.specs.Tree.{node_count}
use Rattle.guide_tree.specs.View.{nodes_view}
use Rattle.guide_tree.specs.Room.{room_left}
use Rattle.guide_tree.proofs.limits.+room_behind.Given as goal

abbrev pub decreases-room_behind : goal.decreases-room_behind
decreases-room_behind l = goal.size-room_behind l

abbrev pub invariant-loop-node : goal.invariant-loop-node
invariant-loop-node l =
    room_left l.left (node_count (nodes_view (drop l.node-index l.nodes))) ≡ room_left l.room
    (node_count (nodes_view l.nodes))
