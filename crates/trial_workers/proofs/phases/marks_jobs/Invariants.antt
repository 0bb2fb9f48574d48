use Rattle.std.proofs.Common.{◌≡◌, ◌≤◌, length}
use Rattle.std.specs.List.{All}
use Rattle.worker_pool.specs.Asked.{IsMarksJob}
use Rattle.trial_workers.proofs.phases.marks_jobs.Given as goal

abbrev pub invariant-loop : goal.invariant-loop
invariant-loop l = (l.from ≤ length l.text) × (length l.jobs.items ≡ l.counter) × All IsMarksJob l.jobs.items
