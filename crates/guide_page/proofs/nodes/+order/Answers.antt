use Rattle.std.proofs.Common.{◌≡◌, ◌∙◌, ◌++◌, ℕ, List, ap, ap₂}
use Rattle.std.proofs.lemmas.Result.{on_ok_weaker}
use Rattle.guide_tree.proofs.ForAbove.{view_loop}
use Rattle.guide_tree.specs.Words.{nodes_view}
use Rattle.guide_tree.specs.declared.node.Node.{Node}
use Rattle.guide_page.specs.Nodes.{all_order_rows, loop_row, path_in, path_of}
use Rattle.guide_page.proofs.Growing.{two}
use Rattle.guide_page.proofs.nodes.+order.Goals as goal

pub append_node-returns-in_ok-inside-in-Loop : goal.append_node-returns-in_ok-inside-in-Loop
append_node-returns-in_ok-inside-in-Loop t c =
    let above : List ℕ = c.args.above.now in
    let id : List ℕ = c.in-Loop.head.id in
    let mid : List ℕ = c.append_loop.new.out.items in
    let path : c.as_slice-in-Loop.result.now ≡ path_in above id =
    c.as_slice-in-Loop.ensures.value ∙ c.in_ok-inside-in-Loop.ensures ∙ ap (path_in above) c.as_slice.ensures in
    rw (view_loop c.args.node.now c.in-Loop.head c.in-Loop.inner c.in-Loop.is) (on_ok_weaker c.append_nodes.result
    (λ adds. two c.args.out.now.items mid c.append_nodes.new.out.items (loop_row (path_of above id) c.in-Loop.head)
    (all_order_rows c.args.names.now (path_in above id) (nodes_view c.in-Loop.inner.items)) c.in_ok-append_loop-in-Loop.ensures
    (adds ∙ ap₂ (λ (p : List ℕ) (ns : List Node). mid ++ all_order_rows c.args.names.now p (nodes_view ns)) path c.deref.ensures.value))
    c.append_nodes.ensures)
