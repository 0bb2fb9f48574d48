use Rattle.std.proofs.Common.{◌≡◌, ◌+◌, ◌≤◌, drop}
use Rattle.work_core.specs.Complete.{times_place}
use Rattle.work_core.proofs.complete.times_recorded.Given as goal

abbrev pub invariant-loop-other : goal.invariant-loop-other
invariant-loop-other l =
    (l.count + times_place l.place (drop l.other-index l.recorded) ≡ times_place l.place l.recorded) × (l.count ≤ l.other-index)
