use Rattle.std.proofs.Common.{◌≡◌, ◌++◌, take, drop}
use Rattle.mailbox.specs.Mailbox.{mapped}
use Rattle.mailbox.proofs.mapped.change.Given as goal

-- what is written, and after it what isn't yet
abbrev pub invariant-loop-i : goal.invariant-loop-i
invariant-loop-i l = l.bytes ≡ mapped l.initial.from l.initial.to (take l.i l.initial.bytes) ++ drop l.i l.initial.bytes
