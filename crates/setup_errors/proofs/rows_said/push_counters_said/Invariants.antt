use Rattle.std.proofs.Common.{◌≡◌, ◌+◌, ◌++◌, drop}
use Rattle.setup_errors.specs.RowsSaid.{counters_said}
use Rattle.setup_errors.proofs.rows_said.push_counters_said.Given as goal

abbrev pub invariant-loop-i : goal.invariant-loop-i
invariant-loop-i l = l.found.items ++ counters_said (l.i + 1) (drop l.i l.counters) ≡ l.initial.found.items ++ counters_said 1 l.counters
