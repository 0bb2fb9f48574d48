use Rattle.std.proofs.Common.{◌≡◌, ◌+◌, drop}
use Rattle.mailbox.specs.Grouping.{run_len}
use Rattle.mailbox.proofs.grouping.run_len.Given as goal

abbrev pub invariant-loop-last : goal.invariant-loop-last
invariant-loop-last l = run_len l.sets ≡ l.last + run_len (drop l.last l.sets)
