use Rattle.std.proofs.Common.{◌≡◌, ◌++◌}
use Rattle.answered_sets.specs.Judged.{all_sets}
use Rattle.mailbox.specs.Deliveries.{outcomes_of}
use Rattle.mailbox.proofs.outcomes.all_outcomes.Given as goal

abbrev pub invariant-loop-placed : goal.invariant-loop-placed
invariant-loop-placed l = record {
  made : l.all.items ≡ outcomes_of l.setup l.yielded;
  left : l.yielded ++ l.placed-iterator ≡ all_sets l.interchanges;
}
