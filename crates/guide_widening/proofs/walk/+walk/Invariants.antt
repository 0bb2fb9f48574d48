use Rattle.std.proofs.Common.{◌≡◌, ◌++◌, drop}
use Rattle.guide_tree.specs.Words.{nodes_view}
use Rattle.guide_widening.specs.NodeDifferences.{nodes_differences}
use Rattle.guide_widening.proofs.walk.+walk.Given as goal

abbrev pub invariant-push_nodes-loop-node : goal.invariant-push_nodes-loop-node
invariant-push_nodes-loop-node l =
    l.found.items ++ nodes_differences (nodes_view (drop l.node-index l.old)) (nodes_view l.rest)
    ≡ l.initial.found.items ++ nodes_differences (nodes_view l.old) (nodes_view l.new)
