use Rattle.std.proofs.lemmas.Result.{IfOk-weaker}
use Rattle.gather_command.proofs.Members.{puts_any}
use Rattle.gather_command.proofs.all.gather_opened.Goals as goal

pub returns-in-Ok-clause-puts : goal.returns-in-Ok-clause-puts
returns-in-Ok-clause-puts g c =
    IfOk-weaker c.gather_reader.result _ _
    (λ r is. puts_any (g.I.Read.remaining c.in-Ok.file) (g.W.Write.contents c.args.out.now) (g.W.Write.contents c.gather_reader.new.out)
    r is)
    c.gather_reader.ensures.gathered
