use Rattle.std.proofs.Common.{◌∙◌}
use Rattle.archived_nights.proofs.Naming.{moment_get}
use Rattle.archived_nights.proofs.archive.last_moment.Goals as goal

pub returns-in-Some : goal.returns-in-Some
returns-in-Some c = c.as_slice.ensures ∙ moment_get c.args.nights.now c.in-Some.night.now c.in-Some.ensures.value
