use Rattle.std.proofs.Common.{◌≡◌, ◌++◌, length}
use Rattle.answered_sets.specs.Judged.{all_sets}
use Rattle.mailbox.specs.Delivering.{HasTaken}
use Rattle.mailbox.proofs.delivering.deliver_each.Given as goal

abbrev pub invariant-loop-placed : goal.invariant-loop-placed
invariant-loop-placed l = record {
  taken : HasTaken l.setup l.yielded l.initial.lists l.lists;
  count : l.n ≡ length l.yielded;
  left : l.yielded ++ l.placed-iterator ≡ all_sets l.interchanges;
}
