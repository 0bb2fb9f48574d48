use Rattle.std.proofs.Common.{◌≡◌, length}
use Rattle.trial_cuts.proofs.pieces.settle.Given as goal

abbrev pub invariant-loop-k : goal.invariant-loop-k
invariant-loop-k l = length l.faults.items ≡ l.k
