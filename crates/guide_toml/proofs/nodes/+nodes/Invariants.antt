use Rattle.std.proofs.Common.{◌≡◌, ◌+◌, ◌*◌, drop, map}
use Rattle.toml.specs.Data.{items_depth, members_depth}
use Rattle.toml.specs.View.{table_view, items_view}
use Rattle.guide_tree.specs.Words.{view as tree_view, nodes_view, node_count}
use Rattle.guide_toml.specs.Guides.{nodes_in}
use Rattle.guide_toml.specs.Refused.{number_after}
use Rattle.guide_toml.proofs.Forests.{with_front}
use Rattle.guide_toml.proofs.nodes.+nodes.Given as goal

abbrev pub decreases-loop_node : goal.decreases-loop_node
decreases-loop_node l = 3 * members_depth (table_view l.table.now) + 1

abbrev pub decreases-node_of : goal.decreases-node_of
decreases-node_of l = 3 * members_depth (table_view l.table.now) + 2

abbrev pub decreases-nodes_of : goal.decreases-nodes_of
decreases-nodes_of l = 3 * items_depth (items_view l.values.now)

abbrev pub invariant-nodes_of-loop-value : goal.invariant-nodes_of-loop-value
invariant-nodes_of-loop-value l = record {
  read : with_front (map tree_view l.nodes.items) (nodes_in l.next (items_view (drop l.value-index l.values)))
      ≡ nodes_in l.initial.next (items_view l.values);
  next : l.next ≡ number_after l.initial.next (node_count (nodes_view l.nodes.items));
}
