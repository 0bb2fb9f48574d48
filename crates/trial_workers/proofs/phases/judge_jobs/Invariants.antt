use Rattle.std.proofs.Common.{◌≡◌, length}
use Rattle.std.specs.List.{All}
use Rattle.worker_pool.specs.Asked.{IsJudgeJob}
use Rattle.trial_workers.proofs.phases.judge_jobs.Given as goal

abbrev pub invariant-loop-k : goal.invariant-loop-k
invariant-loop-k l = (length l.jobs.items ≡ l.k) × All IsJudgeJob l.jobs.items
