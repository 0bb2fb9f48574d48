use Rattle.std.proofs.Common.{◌≡◌, ◌<◌, ℕ}
use Rattle.claim_desk.specs.Seats.{times}
use Rattle.work_core.specs.Complete.{jobs_in}
use Rattle.work_core.proofs.complete.is_each_once.Given as goal

abbrev pub invariant-loop-job : goal.invariant-loop-job
invariant-loop-job l = (j : ℕ) → j < l.job → times j (jobs_in l.finished) ≡ 1
