use Rattle.std.proofs.Common.{◌≡◌, ◌++◌, drop}
use Rattle.guide_tree.specs.Words.{nodes_view}
use Rattle.guide_warnings.specs.Unmet.{unmet_nodes}
use Rattle.guide_warnings.proofs.unmet.+push_unmet.Given as goal

abbrev pub decreases-push_unmet : goal.decreases-push_unmet
decreases-push_unmet l = goal.size-push_unmet l

abbrev pub invariant-loop-node : goal.invariant-loop-node
invariant-loop-node l =
    l.found.items ++ unmet_nodes (nodes_view (drop l.node-index l.nodes)) ≡ l.initial.found.items ++ unmet_nodes (nodes_view l.nodes)
