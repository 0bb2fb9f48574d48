-- X12.6, transaction set (own): the lists of nodes of a guide, by the numbers of the loops that have them.
use Rattle.std.specs.Prelude.{◌≡◌, List, [], ◌∷◌, ◌++◌, map, Some, slice_get}
use Rattle.guide_tree.specs.declared.node.Node.{Node}
use Rattle.guide_tree.specs.Words.{Tree, Trees, segment, loop, no_trees, tree, nodes_view}

-- a list for each node, parents first; a segment's is empty
abbrev mutual
  pub lists_in : Tree → List Trees
  lists_in (segment s) = no_trees ∷ []
  lists_in (loop l ts) = ts ∷ lists_of ts

  pub lists_of : Trees → List Trees
  lists_of no_trees = []
  lists_of (tree t ts) = lists_in t ++ lists_of ts

-- at 0 the guide's own nodes
abbrev pub tables_of : Trees → List Trees
tables_of ts = ts ∷ lists_of ts

abbrev pub trees_in : List (List Node) → List Trees
trees_in tables = map nodes_view tables

-- each loop's nodes are at its number
abbrev mutual
  pub HasTablesIn : List Trees → Tree → Type 0
  HasTablesIn tables (segment s) = Unit {0}
  HasTablesIn tables (loop l ts) = (slice_get tables l.number ≡ Some ts) × HasTables tables ts

  pub HasTables : List Trees → Trees → Type 0
  HasTables tables no_trees = Unit {0}
  HasTables tables (tree t ts) = HasTablesIn tables t × HasTables tables ts
