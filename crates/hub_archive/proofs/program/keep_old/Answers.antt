use Rattle.std.proofs.lemmas.Result.{IfOk-weaker}
use Rattle.hub_archive.proofs.program.keep_old.Goals as goal

pub returns : goal.returns
returns g c =
    let archiving = c.archiving_of-archiving.result in
    IfOk-weaker c.archive_on.result _ _
    (λ kept done. record { archiving = archiving; archiving_is = c.archiving_of-archiving.ensures; old = _; new = _; done = done })
    c.archive_on.ensures.done
