use Rattle.worker_pool.proofs.ForAbove.{placed_by}
use Rattle.trial_workers.proofs.checking.checks_named.Goals as goal

pub run_checks-requires-clause-places : goal.run_checks-requires-clause-places
run_checks-requires-clause-places g c κs within = placed_by _ _ c.requires.places
