use Rattle.std.proofs.Common.{List, subst}
use Rattle.std.proofs.lemmas.Result.{IfOk-weaker}
use Rattle.guide_tree.specs.declared.node.Node.{Node}
use Rattle.guide_tree.specs.Words.{nodes_view, numbered}
use Rattle.setup_errors.specs.GuideWords.{IsGuideSaid}
use Rattle.check_command.proofs.Reading.{own_said}
use Rattle.check_command.proofs.judged.guide_words.Goals as goal

pub returns-in-Ok : goal.returns-in-Ok
returns-in-Ok c =
    IfOk-weaker c.own_words.result _ _
    (λ text said. own_said c.args.bytes.now c.args.fault.now c.in-Ok.rows text c.in-Ok.ensures.table c.in-Ok.ensures.not_toml
    (subst (λ (ns : List Node). IsGuideSaid (numbered 1 (nodes_view ns)) c.args.fault.now text) c.deref.ensures.value said))
    c.own_words.ensures
