use Rattle.std.proofs.Common.{◌≡◌, drop}
use Rattle.guide_tree.specs.Words.{nodes_view}
use Rattle.depend_check.specs.Dependencies.{seat_among}
use Rattle.depend_check.proofs.seat.+seat_among.Given as goal

abbrev pub decreases-seat_among : goal.decreases-seat_among
decreases-seat_among l = goal.size-seat_among l

abbrev pub invariant-loop-node : goal.invariant-loop-node
invariant-loop-node l =
    seat_among l.outer l.label (nodes_view (drop l.node-index l.nodes)) ≡ seat_among l.outer l.label (nodes_view l.nodes)
