use Rattle.std.proofs.Common.{◌≡◌, ◌+◌, ◌*◌, ◌++◌, drop, map}
use Rattle.toml.specs.Data.{depth, items_depth}
use Rattle.toml.specs.View.{items_view, table_view, view}
use Rattle.key_errors.specs.NodeTables as nodes
use Rattle.key_errors.proofs.node_tables.+push_nodes.Given as goal

abbrev pub decreases-push_node : goal.decreases-push_node
decreases-push_node l = 2 * depth (view l.value.now)

abbrev pub decreases-push_nodes : goal.decreases-push_nodes
decreases-push_nodes l = 2 * items_depth (items_view l.values.now) + 1

abbrev pub invariant-push_nodes-loop-value : goal.invariant-push_nodes-loop-value
invariant-push_nodes-loop-value l =
    map (λ t. table_view t.now) l.tables.items ++ nodes.tables_in (items_view (drop l.value-index l.values))
    ≡ map (λ t. table_view t.now) l.initial.tables.items ++ nodes.tables_in (items_view l.values)
