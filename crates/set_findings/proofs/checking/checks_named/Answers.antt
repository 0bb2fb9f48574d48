use Rattle.std.proofs.Common.{ap, ◌∙◌}
use Rattle.env_index.specs.Words.{places_of}
use Rattle.worker_pool.proofs.ForAbove.{placed_by}
use Rattle.set_findings.proofs.checking.checks_named.Goals as goal

pub run_checks-requires-clause-places : goal.run_checks-requires-clause-places
run_checks-requires-clause-places g c κs within =
    placed_by c.args.jobs.now (places_of g.J.Named.index) (c.requires.places ∙ ap places_of c.requires.index)
