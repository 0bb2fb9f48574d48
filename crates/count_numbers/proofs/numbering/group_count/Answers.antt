use Rattle.std.proofs.Common.{arith}
use Rattle.count_numbers.proofs.Grouping.{none_counted}
use Rattle.count_numbers.proofs.numbering.group_count.Goals as goal

pub loop-run-init : goal.loop-run-init
loop-run-init c = record { counted = none_counted c.args.cap c.args.runs.now; is = omega arith }
