use Rattle.std.proofs.Common.{◌≡◌, ◌+◌, drop}
use Rattle.guide_tree.specs.Words.{node_count, nodes_view}
use Rattle.check_command.proofs.judge.+node_count.Given as goal

abbrev pub decreases-node_count : goal.decreases-node_count
decreases-node_count l = goal.size-node_count l

abbrev pub invariant-loop-node : goal.invariant-loop-node
invariant-loop-node l = l.count + node_count (nodes_view (drop l.node-index l.nodes)) ≡ node_count (nodes_view l.nodes)
