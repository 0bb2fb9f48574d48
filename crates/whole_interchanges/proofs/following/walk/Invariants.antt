use Rattle.std.proofs.Common.{◌≤◌, ◌-◌, length}
use Rattle.whole_interchanges.specs.Open.{GoesOn, IsOpen}
use Rattle.whole_interchanges.specs.Passing.{AreSearched}
use Rattle.whole_interchanges.proofs.following.walk.Given as goal

abbrev pub invariant-loop-next : goal.invariant-loop-next
invariant-loop-next l = record {
  later : l.initial.part.at ≤ l.part.at;
  goes_on : GoesOn l.read l.delims l.initial.part.at l.part.at;
  open_part : IsOpen l.read l.delims.terminator l.part.at l.part.lead l.part.seen;
  searched : AreSearched l.read l.searched;
}

abbrev pub decreases-loop-next : goal.decreases-loop-next
decreases-loop-next l = length l.read - l.part.at
