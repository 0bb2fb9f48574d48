use Rattle.std.proofs.Common.{◌≡◌, drop}
use Rattle.work_core.specs.Once.{none_other}
use Rattle.work_core.proofs.complete.is_no_other_recorded.Given as goal

abbrev pub invariant-loop-place : goal.invariant-loop-place
invariant-loop-place l = none_other l.jobs (drop l.place-index l.recorded) ≡ none_other l.jobs l.recorded
