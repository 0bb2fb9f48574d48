use Rattle.std.proofs.Common.{◌≡◌, ◌++◌, drop}
use Rattle.guide_tree.specs.Words.{nodes_view}
use Rattle.guide_warnings.specs.Labels.{nodes_labels}
use Rattle.guide_warnings.proofs.labels.+push_labels.Given as goal

abbrev pub decreases-push_labels : goal.decreases-push_labels
decreases-push_labels l = goal.size-push_labels l

abbrev pub invariant-loop-node : goal.invariant-loop-node
invariant-loop-node l =
    l.found.items ++ nodes_labels l.depends (nodes_view (drop l.node-index l.nodes))
    ≡ l.initial.found.items ++ nodes_labels l.depends (nodes_view l.nodes)
