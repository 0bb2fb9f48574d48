use Rattle.explain_command.proofs.Opened.{told_at}
use Rattle.explain_command.proofs.files.told_of.Goals as goal

pub returns-clause-told : goal.returns-clause-told
returns-clause-told g c =
    told_at c.args.names.now c.into_answer.result g.I.Read.remaining c.in_ok-told.told c.in_ok-told.ensures.told c.in_ok-told.ensures.closed
