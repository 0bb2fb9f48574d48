use Rattle.std.proofs.Common.{◌≡◌, drop}
use Rattle.work_core.specs.Once.{each_recorded}
use Rattle.work_core.proofs.complete.is_each_recorded.Given as goal

abbrev pub invariant-loop-place : goal.invariant-loop-place
invariant-loop-place l = each_recorded l.recorded (drop l.place-index l.jobs) ≡ each_recorded l.recorded l.jobs
