-- The nodes of a list that is gone over, as the trees that they stand for.
use Rattle.std.proofs.Common.{◌≡◌, ℕ, ◌+◌, ◌<◌, List, [], ◌∷◌, length, get_or, drop, ap, drop-cons, add-one}
use Rattle.guide_tree.specs.declared.node.Node.{Node}
use Rattle.guide_tree.specs.Tree.{Tree, Trees, tree}
use Rattle.guide_tree.specs.View.{view, nodes_view}

pub nodes_view-drop : (ns : List Node) (i : ℕ) (d : Node) → i < length ns
    → nodes_view (drop i ns) ≡ tree (view (get_or ns i d)) (nodes_view (drop (i + 1) ns))
nodes_view-drop ns i d h = rw (add-one) (ap nodes_view (drop-cons ns i d h))

-- trees before others
abbrev pub in_front : List Tree → Trees → Trees
in_front [] us = us
in_front (t ∷ ts) us = tree t (in_front ts us)
