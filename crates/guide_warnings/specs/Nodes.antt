-- X12.6, transaction set (own): the warnings of the nodes of a guide, in their order.
use Rattle.std.specs.Prelude.{List, [], ◌++◌}
use Rattle.guide_tree.specs.Words.{Tree, Trees, loop, no_trees, segment, tree}
use Rattle.guide_warnings.specs.Rows.{slot_warnings}
use Rattle.guide_warnings.specs.declared.warning.Warning.{Warning}

abbrev mutual
  pub node_warnings : Tree → List Warning
  node_warnings (segment s) = slot_warnings s
  node_warnings (loop l ts) = nodes_warnings ts

  pub nodes_warnings : Trees → List Warning
  nodes_warnings no_trees = []
  nodes_warnings (tree t ts) = node_warnings t ++ nodes_warnings ts
