use Rattle.std.proofs.Common.{◌≡◌, drop}
use Rattle.setup_errors.specs.Rows.{first_unlisted}
use Rattle.setup_errors.proofs.rows.first_unknown.Given as goal

abbrev pub invariant-loop-i : goal.invariant-loop-i
invariant-loop-i l = first_unlisted l.names (drop l.i l.texts) ≡ first_unlisted l.names l.texts
