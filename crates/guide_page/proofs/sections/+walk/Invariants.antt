use Rattle.std.proofs.Common.{◌≡◌, ◌++◌, drop}
use Rattle.guide_tree.specs.Words.{nodes_view}
use Rattle.guide_page.specs.Nodes.{all_sections}
use Rattle.guide_page.proofs.sections.+walk.Given as goal

abbrev pub invariant-append_nodes-loop-node : goal.invariant-append_nodes-loop-node
invariant-append_nodes-loop-node l =
    l.out.items ++ all_sections l.names l.above (nodes_view (drop l.node-index l.nodes)) ≡ l.initial.out.items ++ all_sections l.names
    l.above
    (nodes_view l.nodes)
