use Rattle.std.proofs.Common.{◌≡◌, drop}
use Rattle.work_core.specs.Complete.{job_places}
use Rattle.work_core.specs.Core.{was_recorded}
use Rattle.work_core.proofs.complete.is_place_of_job.Given as goal

abbrev pub invariant-loop-other : goal.invariant-loop-other
invariant-loop-other l = was_recorded (job_places (drop l.other-index l.jobs)) l.place ≡ was_recorded (job_places l.jobs) l.place
