use Rattle.std.proofs.lemmas.Result.{IfOk-weaker}
use Rattle.gather_command.proofs.Members.{aside, stays, taken_back}
use Rattle.gather_command.proofs.all.settled.Goals as goal

pub returns-then-not-changed-clause-settled : goal.returns-then-not-changed-clause-settled
returns-then-not-changed-clause-settled g c = λ declared was puts.
    stays declared was (g.W.Write.contents c.args.out.now) c.args.gathered puts

pub returns-in-Taken-clause-settled : goal.returns-in-Taken-clause-settled
returns-in-Taken-clause-settled g c =
    IfOk-weaker c.take_back.result _ _
    (λ o is declared was puts. taken_back declared was (g.W.Write.contents c.args.out.now) (g.W.Write.contents c.take_back.new.out)
    c.args.gathered c.in-Taken.taken o c.in-Taken.is puts is.0 is.1)
    c.take_back.ensures.back

pub returns-in-SetAside-clause-settled : goal.returns-in-SetAside-clause-settled
returns-in-SetAside-clause-settled g c = λ declared was puts.
    aside declared was (g.W.Write.contents c.args.out.now) c.args.gathered _ c.in-SetAside.is puts
