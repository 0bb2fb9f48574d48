use Rattle.std.proofs.Common.{arith}
use Rattle.mailbox.proofs.Groups.{run_all}
use Rattle.mailbox.proofs.grouping.run_len.Goals as goal

pub returns-clause-value : goal.returns-clause-value
returns-clause-value c = run_all c.args.sets.now c.loop-last.last c.loop-last.invariant (omega arith)
