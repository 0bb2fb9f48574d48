use Rattle.std.proofs.Common.{◌≡◌, drop}
use Rattle.setup_errors.specs.Conditions.{missing_row}
use Rattle.setup_errors.proofs.conditions.missing_row.Given as goal

abbrev pub invariant-loop-i : goal.invariant-loop-i
invariant-loop-i l = missing_row l.slot (drop l.i l.positions) ≡ missing_row l.slot l.positions
