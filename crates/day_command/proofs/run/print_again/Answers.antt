use Rattle.std.proofs.Common.{◌≢◌, arith}
use Rattle.day_command.proofs.run.print_again.Goals as goal

pub returns-in-Ok-clause-printed : goal.returns-in-Ok-clause-printed
returns-in-Ok-clause-printed g c done =
    let printed : c.finish_again.result ≢ 5 = omega (arith, done) in
    record {
      sets = c.in-Ok.sets;
      sets_are = c.in-Ok.ensures.again;
      found = c.finish_again.ensures.status printed;
      printed = c.finish_again.ensures.printed printed;
      said = c.finish_again.ensures.said printed;
    }
