-- What is in a loop after its first child.
use Rattle.std.proofs.Common.{◌≡◌, List, [], ◌∷◌, drop, refl, ap, ◌∙◌, rules, Option}
use Rattle.std.specs.Prelude.{Vec}
use Rattle.std.specs.declared.alloc.Global.{Global}
use Rattle.guide_tree.specs.declared.node.Node.{Node, the_lemmas}
use Rattle.guide_tree.specs.declared.node.Node as node
use Rattle.guide_tree.specs.declared.node.Loop.{Loop}
use Rattle.guide_tree.specs.Tree.{Trees, loop}
use Rattle.guide_tree.specs.View.{view, nodes_view}
use Rattle.guide_tree.specs.Rivals.{Numbers, within, within_in, least_rivals, least_in}

pub view_loop : (n : Node) (l : Loop) (ns : Vec Node Global) → n ≡ node.Loop l ns
    → view n ≡ loop l (nodes_view ns.items)
view_loop n l ns e =
    ap view e ∙ (let v : view (node.Loop l ns) ≡ loop l (nodes_view ns.items) = search (rules, the_lemmas) in v)

pub within_behind : (outer : Trees) (best : Option Numbers) (l : Loop) (ns : List Node)
    → within outer best (nodes_view (drop 1 ns)) ≡ within_in outer best (loop l (nodes_view ns))
within_behind outer best l [] = refl
within_behind outer best l (n ∷ ns) = refl

pub least_behind : (best : Option Numbers) (l : Loop) (ns : List Node)
    → least_rivals best (nodes_view (drop 1 ns)) ≡ least_in best (loop l (nodes_view ns))
least_behind best l [] = refl
least_behind best l (n ∷ ns) = refl
