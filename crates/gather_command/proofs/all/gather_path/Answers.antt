use Rattle.std.proofs.Common.{None}
use Rattle.std.proofs.lemmas.Result.{IfOk-weaker}
use Rattle.gather_command.proofs.Members.{unnamed}
use Rattle.gather_command.proofs.all.gather_path.Goals as goal

pub returns-then-is_not_utf_8 : goal.returns-then-is_not_utf_8
returns-then-is_not_utf_8 g c = record { gathered = unnamed (g.W.Write.contents c.args.out.now) }

pub returns : goal.returns
returns g c = record {
  gathered =
      IfOk-weaker c.settled.result _ _
      (λ o adds. adds None (g.W.Write.contents c.args.out.now) c.in_ok-gathered.ensures.puts) c.settled.ensures.settled;
}
