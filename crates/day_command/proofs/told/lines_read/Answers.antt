use Rattle.std.proofs.lemmas.Result.{IfOk-weaker}
use Rattle.day_command.proofs.Telling as telling
use Rattle.day_command.proofs.told.lines_read.Goals as goal

pub returns-in_default : goal.returns-in_default
returns-in_default c =
    IfOk-weaker c.lines_of.result _ _ (λ lines are. telling.lines_read c.args.text.now lines c.in_default.len_at_least are)
    c.lines_of.ensures
