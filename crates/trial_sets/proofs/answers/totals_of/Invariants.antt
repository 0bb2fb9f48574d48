use Rattle.std.proofs.Common.{◌≡◌, take}
use Rattle.ack_999.specs.Group.{totals_of, received_sets, IsCountable}
use Rattle.trial_sets.proofs.answers.totals_of.Given as goal

abbrev pub invariant-loop-set : goal.invariant-loop-set
invariant-loop-set l = record {
  counted : l.totals ≡ totals_of (take l.set-index l.sets);
  sets : received_sets l.totals ≡ l.set-index;
  countable : IsCountable l.totals;
}
