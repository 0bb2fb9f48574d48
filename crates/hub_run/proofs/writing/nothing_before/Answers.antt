use Rattle.std.proofs.Common.{arith}
use Rattle.std.proofs.lemmas.Result.{IfOk-weaker}
use Rattle.hub_run.proofs.OneBatch.{room_before}
use Rattle.hub_run.proofs.writing.nothing_before.Goals as goal

pub returns-clause-room : goal.returns-clause-room
returns-clause-room c =
    IfOk-weaker c.new.result _ _ (λ w is. room_before c.args.setup.now c.args._at.now w _ _ is
    (omega (arith, c.interchanges-interchanges.ensures.few)) (omega (arith, c.outside-outside.ensures))) c.new.ensures
