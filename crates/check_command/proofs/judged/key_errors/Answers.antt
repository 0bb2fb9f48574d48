use Rattle.std.proofs.lemmas.Result.{IfOk-weaker}
use Rattle.toml.specs.View.{table_view}
use Rattle.check_command.proofs.judged.key_errors.Goals as goal

pub returns : goal.returns
returns c =
    IfOk-weaker c.guide_key_text.result _ _
    (λ text said. (table_view c.in_ok-top.top, c.in_ok-top.ensures, said))
    c.guide_key_text.ensures
