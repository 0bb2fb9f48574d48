use Rattle.std.proofs.Common.{◌≡◌, drop}
use Rattle.setup_errors.specs.Conditions.{missing_rows}
use Rattle.setup_errors.proofs.conditions.missing_rows.Given as goal

abbrev pub invariant-loop-i : goal.invariant-loop-i
invariant-loop-i l = missing_rows l.slot (drop l.i l.listed) ≡ missing_rows l.slot l.listed
