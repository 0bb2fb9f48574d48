use Rattle.std.proofs.lemmas.Result.{IfOk-weaker}
use Rattle.hub_archive.proofs.program.archive.Goals as goal

pub returns : goal.returns
returns g c =
    IfOk-weaker c.archive_old.result _ _ (λ told done. record { intact = c.in_ok-see_intact.ensures.intact; archived = done })
    c.archive_old.ensures
