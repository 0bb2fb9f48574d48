use Rattle.std.proofs.Common.{take}
use Rattle.mailbox.specs.Delivering.{HasSent}
use Rattle.mailbox.proofs.delivering.send.Given as goal

abbrev pub invariant-loop-n : goal.invariant-loop-n
invariant-loop-n l = HasSent l.placed (take l.n l.outcomes) l.initial.lists l.lists
