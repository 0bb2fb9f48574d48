use Rattle.std.proofs.Common.{◌≡◌, List, length, subst}
use Rattle.std.proofs.lemmas.Result.{IfOk-weaker}
use Rattle.guide_tree.specs.declared.node.Node.{Node}
use Rattle.guide_tree.specs.Words.{nodes_view, numbered}
use Rattle.setup_errors.specs.NodesSaid.{node_faults}
use Rattle.check_command.proofs.Behind.{nodes_are}
use Rattle.check_command.proofs.further.nodes_of.Goals as goal

pub returns-in-Ok : goal.returns-in-Ok
returns-in-Ok c =
    IfOk-weaker c.node_texts.result _ _
    (λ said is. nodes_are c.args.bytes.now c.in-Ok.rows said c.in-Ok.ensures.table c.in-Ok.ensures.not_toml
    (subst (λ (ns : List Node). length said ≡ length (node_faults (numbered 1 (nodes_view ns)))) c.deref.ensures.value is))
    c.node_texts.ensures
