use Rattle.std.proofs.Common.{◌≡◌, ◌++◌, take}
use Rattle.mailbox.proofs.rendered_sets.Row.append_lent.Given as goal

abbrev pub invariant-loop-i : goal.invariant-loop-i
invariant-loop-i l = l.lent.items ≡ l.initial.lent.items ++ take l.i l.self
