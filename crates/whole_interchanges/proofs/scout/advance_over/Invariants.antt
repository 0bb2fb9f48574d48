use Rattle.std.proofs.Common.{◌-◌, length}
use Rattle.whole_interchanges.specs.Passing.{AreSearched}
use Rattle.whole_interchanges.proofs.Scouts.{ComesTo}
use Rattle.whole_interchanges.proofs.scout.advance_over.Given as goal

abbrev pub invariant-loop-next : goal.invariant-loop-next
invariant-loop-next l = record {
  comes : ComesTo l.read l.initial.at l.at l.inside l.count;
  searched : AreSearched l.read l.searched;
}

abbrev pub decreases-loop-next : goal.decreases-loop-next
decreases-loop-next l = length l.read - l.at
