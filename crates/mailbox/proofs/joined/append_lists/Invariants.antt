use Rattle.std.proofs.Common.{◌≡◌, ◌++◌, [], length}
use Rattle.std.specs.Prelude.{slice_index_or}
use Rattle.mailbox.specs.Delivering.{HasGrown}
use Rattle.mailbox.proofs.joined.append_lists.Given as goal

abbrev pub invariant-loop-sets : goal.invariant-loop-sets
invariant-loop-sets l =
    HasGrown (λ q. slice_index_or l.yielded q []) l.initial.lists l.lists
    × (l.place ≡ length l.yielded)
    × (l.fn.more.items ≡ l.yielded ++ l.sets-iterator.rest.items)
