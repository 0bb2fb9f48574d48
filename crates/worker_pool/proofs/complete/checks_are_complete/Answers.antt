use Rattle.worker_pool.proofs.Completing.{complete}
use Rattle.worker_pool.proofs.complete.checks_are_complete.Goals as goal

pub returns : goal.returns
returns c = complete _ _ _ _ _ c.requires.places c.requires.seat c.requires.numbers c.requires.once
