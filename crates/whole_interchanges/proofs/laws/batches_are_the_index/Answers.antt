use Rattle.whole_interchanges.proofs.Stepping.{ends, starts, steps}
use Rattle.whole_interchanges.proofs.laws.batches_are_the_index.Goals as goal

pub returns-clause-starts : goal.returns-clause-starts
returns-clause-starts c = starts

pub returns-clause-steps : goal.returns-clause-steps
returns-clause-steps c = λ before text done outside k xs index so_far within chain batch.
    steps before text done outside k xs index so_far within chain batch

pub returns-clause-ends : goal.returns-clause-ends
returns-clause-ends c = λ text done outside so_far. ends text done outside so_far
