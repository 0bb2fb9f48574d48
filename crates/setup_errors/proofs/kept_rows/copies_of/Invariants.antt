use Rattle.std.proofs.Common.{◌≡◌, take}
use Rattle.setup_errors.proofs.kept_rows.copies_of.Given as goal

abbrev pub invariant-loop-i : goal.invariant-loop-i
invariant-loop-i g l = l.copies.items ≡ take l.i l.rows
