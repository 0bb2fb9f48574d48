use Rattle.std.proofs.Common.{◌≡◌, drop}
use Rattle.setup_errors.specs.Rows.{first_again}
use Rattle.setup_errors.proofs.rows.first_again.Given as goal

abbrev pub invariant-loop-i : goal.invariant-loop-i
invariant-loop-i l = first_again (drop l.i l.texts) ≡ first_again l.texts
