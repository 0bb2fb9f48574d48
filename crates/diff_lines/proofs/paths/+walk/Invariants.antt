use Rattle.std.proofs.Common.{◌≡◌, ◌++◌, drop}
use Rattle.guide_tree.specs.Words.{nodes_view}
use Rattle.diff_lines.specs.Paths.{nodes_paths}
use Rattle.diff_lines.proofs.paths.+walk.Given as goal

abbrev pub invariant-push_nodes-loop-node : goal.invariant-push_nodes-loop-node
invariant-push_nodes-loop-node l =
    l.paths.items ++ nodes_paths l.above (nodes_view (drop l.node-index l.nodes))
    ≡ l.initial.paths.items ++ nodes_paths l.above (nodes_view l.nodes)
