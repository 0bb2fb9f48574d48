use Rattle.std.proofs.Common.{◌≡◌, map, take}
use Rattle.worker_pool.specs.Jobs.{place_of}
use Rattle.worker_pool.specs.Spans.{AreSpans}
use Rattle.trial_workers.proofs.checking.jobs_of.Given as goal

abbrev pub invariant-loop-place : goal.invariant-loop-place
invariant-loop-place l = AreSpans l.jobs.items × (map place_of l.jobs.items ≡ take l.place-index l.places)
