use Rattle.std.proofs.Common.{◌≡◌, ◌++◌, drop}
use Rattle.guide_tree.specs.Words.{nodes_view}
use Rattle.guide_fast.specs.Tables.{trees_in, lists_of}
use Rattle.guide_fast.proofs.tables.+add_tables.Given as goal

abbrev pub decreases-add_tables : goal.decreases-add_tables
decreases-add_tables l = goal.size-add_tables l

abbrev pub invariant-loop-node : goal.invariant-loop-node
invariant-loop-node l =
    trees_in l.tables.items ++ lists_of (nodes_view (drop l.node-index l.nodes))
    ≡ trees_in l.fn.tables.items ++ lists_of (nodes_view l.nodes)
