use Rattle.std.proofs.Common.{◌≡◌, ◌+◌, ◌++◌, drop}
use Rattle.setup_errors.specs.RowsSaid.{partners_said}
use Rattle.setup_errors.proofs.rows_said.push_partners.Given as goal

abbrev pub invariant-loop-i : goal.invariant-loop-i
invariant-loop-i l = l.found.items ++ partners_said (l.i + 1) (drop l.i l.partners) ≡ l.initial.found.items ++ partners_said 1 l.partners
