use Rattle.std.proofs.Common.{sym, ◌∙◌}
use Rattle.work_core.specs.Complete.{jobs_in}
use Rattle.work_core.proofs.Completing.{beyond_all, finished_once, once_none}
use Rattle.work_core.proofs.complete.is_finished_once.Goals as goal

pub returns : goal.returns
returns c =
    let fs = c.args.finished.now in
    let each = c.is_each_once.ensures.0 c.if-not-is_each_once.false in (
      λ h. finished_once c.args.count fs each (sym c.is_none_beyond.ensures ∙ h),
      λ once. c.is_none_beyond.ensures ∙ beyond_all c.args.count fs (once_none c.args.count (jobs_in fs) once),
    )
