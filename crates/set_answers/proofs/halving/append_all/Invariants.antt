use Rattle.std.proofs.Common.{◌≡◌, ◌++◌, length}
use Rattle.set_answers.proofs.Continuing.{AreContinuedSoFar}
use Rattle.set_answers.proofs.halving.append_all.Given as goal

abbrev pub invariant-loop-sent : goal.invariant-loop-sent
invariant-loop-sent l =
    AreContinuedSoFar l.yielded l.initial.files l.files
    × (l.place ≡ length l.yielded)
    × (l.fn.more.items ≡ l.yielded ++ l.sent-iterator.rest.items)
