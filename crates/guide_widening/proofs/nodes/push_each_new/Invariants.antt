use Rattle.std.proofs.Common.{◌≡◌, ◌++◌, drop}
use Rattle.guide_tree.specs.Words.{nodes_view}
use Rattle.guide_widening.specs.NodeDifferences.{new_nodes}
use Rattle.guide_widening.proofs.nodes.push_each_new.Given as goal

abbrev pub invariant-loop-node : goal.invariant-loop-node
invariant-loop-node l =
    l.found.items ++ new_nodes (nodes_view (drop l.node-index l.new)) ≡ l.initial.found.items ++ new_nodes (nodes_view l.new)
