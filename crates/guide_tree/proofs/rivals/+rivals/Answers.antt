use Rattle.std.proofs.Common.{List, sym, ap, ◌∙◌, drop}
use Rattle.guide_tree.specs.declared.node.Node.{Node}
use Rattle.guide_tree.specs.Rivals.{least_rivals, least_in}
use Rattle.guide_tree.specs.View.{nodes_view}
use Rattle.guide_tree.proofs.Behind.{view_loop, least_behind}
use Rattle.guide_tree.proofs.rivals.+rivals.Goals as goal

pub least_in-returns-in-Loop : goal.least_in-returns-in-Loop
least_in-returns-in-Loop t c =
    c.least_rivals.ensures
    ∙ ap (λ (ns : List Node). least_rivals c.args.best (nodes_view (drop 1 ns))) c.deref.ensures.value
    ∙ least_behind c.args.best c.in-Loop.field-0 c.in-Loop.inner.items
    ∙ ap (least_in c.args.best) (sym (view_loop c.args.node.now c.in-Loop.field-0 c.in-Loop.inner c.in-Loop.is))
