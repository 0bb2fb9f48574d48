-- X12.6, transaction set: what the rows of a guide mean.
use Rattle.std.specs.Prelude.{List, [], ◌∷◌, map}
use Rattle.guide_tree.specs.Tree.{Tree, Trees, segment, loop, no_trees, tree, GuideTree, with_slot_numbers}
use Rattle.guide_tree.specs.declared.node.Node.{Node, fold-Node}
use Rattle.guide_tree.specs.declared.node.Node.TheOpen.{Node-F}
use Rattle.guide_tree.specs.declared.rows.GuideRows.{GuideRows}

abbrev pub trees_of : List Tree → Trees
trees_of [] = no_trees
trees_of (t ∷ ts) = tree t (trees_of ts)

abbrev pub view_step : Node-F Tree → Tree
view_step (Node-F.Segment s) = segment s
view_step (Node-F.Loop l ns) = loop l (trees_of ns.items)

abbrev pub view : Node → Tree
view = fold-Node Tree view_step

abbrev pub nodes_view : List Node → Trees
nodes_view ns = trees_of (map view ns)

-- the guide that rows mean
abbrev pub guide_of : GuideRows → GuideTree
guide_of rows = record { head = rows.head; hl = rows.hl; depends = rows.depends; nodes = nodes_view rows.nodes.items }

-- the same with its slots numbered
abbrev pub numbered_guide : GuideRows → GuideTree
numbered_guide rows = with_slot_numbers (guide_of rows)
