use Rattle.std.proofs.Common.{◌≡◌, ◌++◌, drop}
use Rattle.guide_tree.specs.Words.{nodes_view}
use Rattle.guide_warnings.specs.Nodes.{nodes_warnings}
use Rattle.guide_warnings.proofs.nodes.+push_nodes.Given as goal

abbrev pub decreases-push_nodes : goal.decreases-push_nodes
decreases-push_nodes l = goal.size-push_nodes l

abbrev pub invariant-loop-node : goal.invariant-loop-node
invariant-loop-node l =
    l.found.items ++ nodes_warnings (nodes_view (drop l.node-index l.nodes)) ≡ l.initial.found.items ++ nodes_warnings (nodes_view l.nodes)
