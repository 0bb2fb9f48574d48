use Rattle.std.proofs.Common.{map}
use Rattle.worker_pool.specs.Jobs.{job_value}
use Rattle.worker_pool.proofs.checks.run_checks.Given as goal

abbrev pub ghosts-checks_branded : goal.ghosts-checks_branded
ghosts-checks_branded g a = record { jobs = map job_value a.jobs.now }
