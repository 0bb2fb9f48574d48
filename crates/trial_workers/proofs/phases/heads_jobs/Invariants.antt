use Rattle.std.proofs.Common.{◌≡◌, ◌≤◌, length}
use Rattle.std.specs.List.{All}
use Rattle.worker_pool.specs.Asked.{IsHeadsJob}
use Rattle.trial_workers.proofs.phases.heads_jobs.Given as goal

abbrev pub invariant-loop : goal.invariant-loop
invariant-loop l = (l.from ≤ length l.text) × (length l.jobs.items ≡ l.counter) × All IsHeadsJob l.jobs.items
