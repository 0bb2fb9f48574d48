use Rattle.std.proofs.Common.{◌-◌, [], length}
use Rattle.whole_interchanges.specs.Batches.{WholeUpTo}
use Rattle.whole_interchanges.proofs.seeking.seek.Given as goal

abbrev pub invariant-loop-ahead : goal.invariant-loop-ahead
invariant-loop-ahead l = WholeUpTo l.read l.from l.at []

abbrev pub decreases-loop-ahead : goal.decreases-loop-ahead
decreases-loop-ahead l = length l.read - l.at
