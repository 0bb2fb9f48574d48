use Rattle.std.proofs.Common.{List, sym, ap, ◌∙◌, drop}
use Rattle.guide_tree.specs.declared.node.Node.{Node}
use Rattle.guide_tree.specs.Rivals.{within, within_in}
use Rattle.guide_tree.specs.View.{nodes_view}
use Rattle.guide_tree.proofs.Behind.{view_loop, within_behind}
use Rattle.guide_tree.proofs.rivals.+within.Goals as goal

pub within_node-returns-in-Loop : goal.within_node-returns-in-Loop
within_node-returns-in-Loop t c =
    let outer = nodes_view c.args.outer.now in
    c.within_nodes.ensures
    ∙ ap (λ (ns : List Node). within outer c.args.best (nodes_view (drop 1 ns))) c.deref.ensures.value
    ∙ within_behind outer c.args.best c.in-Loop.field-0 c.in-Loop.inner.items
    ∙ ap (within_in outer c.args.best) (sym (view_loop c.args.node.now c.in-Loop.field-0 c.in-Loop.inner c.in-Loop.is))
