use Rattle.std.proofs.Common.{◌≡◌}
use Rattle.trial_workers.proofs.shared.is_each_recorded.Given as goal

abbrev pub invariant-loop-k : goal.invariant-loop-k
invariant-loop-k l = l.records.index ≡ l.initial.records.index
