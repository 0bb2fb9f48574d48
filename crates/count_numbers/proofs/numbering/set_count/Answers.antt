use Rattle.std.proofs.Common.{arith}
use Rattle.count_numbers.proofs.Expanding.{counted_from_none}
use Rattle.count_numbers.proofs.numbering.set_count.Goals as goal

pub loop-run-init : goal.loop-run-init
loop-run-init c = record { counted = counted_from_none c.args.runs.now; is = omega arith }
