use Rattle.std.proofs.lemmas.Result.{IfOk-weaker}
use Rattle.hub_archive.proofs.program.archive_old.Goals as goal

pub returns : goal.returns
returns g c =
    IfOk-weaker c.told_of.result _ _ (λ told is. record { is_kept = c.in_ok-_kept._kept; kept = c.in_ok-_kept.ensures; told_is = is })
    c.told_of.ensures
