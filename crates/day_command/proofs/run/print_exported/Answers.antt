use Rattle.std.proofs.Common.{◌≢◌, arith}
use Rattle.day_command.proofs.run.print_exported.Goals as goal

pub returns-in-Ok-clause-printed : goal.returns-in-Ok-clause-printed
returns-in-Ok-clause-printed g c done =
    let printed : c.finish_both.result ≢ 5 = omega (arith, done) in
    record {
      text = c.in-Ok.all.text.items;
      unread = c.in-Ok.all.unread.items;
      exported = c.in-Ok.ensures.export c.finish_both.result (c.finish_both.ensures.status printed);
      printed = c.finish_both.ensures.printed printed;
      named = c.finish_both.ensures.named printed;
    }
