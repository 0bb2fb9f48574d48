use Rattle.std.proofs.Common.{◌≡◌, ◌+◌, ◌≤◌, drop}
use Rattle.claim_desk.specs.Seats.{times}
use Rattle.work_core.specs.Complete.{jobs_in}
use Rattle.work_core.proofs.complete.times_finished.Given as goal

abbrev pub invariant-loop-other : goal.invariant-loop-other
invariant-loop-other l =
    (l.count + times l.job (jobs_in (drop l.other-index l.finished)) ≡ times l.job (jobs_in l.finished)) × (l.count ≤ l.other-index)
