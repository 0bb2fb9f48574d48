use Rattle.std.proofs.Common.{map}
use Rattle.worker_pool.proofs.pool.run_jobs.Given as goal

abbrev pub ghosts-jobs_branded : goal.ghosts-jobs_branded
ghosts-jobs_branded g a = record { jobs = map g.J.Job.value a.jobs.now }
