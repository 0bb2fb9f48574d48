use Rattle.std.proofs.Common.{◌≡◌, ◌++◌}
use Rattle.record_review.proofs.names.append_all.Given as goal

abbrev pub invariant-loop-name : goal.invariant-loop-name
invariant-loop-name l = l.names.items ++ l.name-iterator.rest.items ≡ l.fn.names.items ++ l.fn.more.items
