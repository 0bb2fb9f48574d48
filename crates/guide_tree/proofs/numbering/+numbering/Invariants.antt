use Rattle.std.proofs.Common.{◌≡◌, ◌+◌, map, take, drop}
use Rattle.guide_tree.specs.Tree.{node_count, numbered}
use Rattle.guide_tree.specs.View.{view, nodes_view}
use Rattle.guide_tree.proofs.NodeViews.{in_front}
use Rattle.guide_tree.proofs.numbering.+numbering.Given as goal

abbrev pub invariant-number_nodes-loop-i : goal.invariant-number_nodes-loop-i
invariant-number_nodes-loop-i l = record {
  unvisited : goal.unvisited-number_nodes-loop-i l;
  next : l.next + node_count (nodes_view (drop l.i l.nodes.items)) ≡ l.first + node_count
      (nodes_view l.initial.nodes.items);
  numbered : in_front (map view (take l.i l.nodes.items))
      (numbered l.next (nodes_view (drop l.i l.nodes.items))) ≡ numbered l.first (nodes_view l.initial.nodes.items);
}
