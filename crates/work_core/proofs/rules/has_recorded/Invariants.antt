use Rattle.std.proofs.Common.{◌≡◌, drop}
use Rattle.work_core.specs.Core.{was_recorded}
use Rattle.work_core.proofs.rules.has_recorded.Given as goal

abbrev pub invariant-loop-other : goal.invariant-loop-other
invariant-loop-other l = was_recorded (drop l.other-index l.recorded) l.place ≡ was_recorded l.recorded l.place
