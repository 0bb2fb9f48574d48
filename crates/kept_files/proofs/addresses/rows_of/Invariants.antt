use Rattle.std.proofs.Common.{◌≡◌, map}
use Rattle.kept_files.specs.Addressed.{row_in}
use Rattle.kept_files.proofs.addresses.rows_of.Given as goal

abbrev pub invariant-loop-entry : goal.invariant-loop-entry
invariant-loop-entry l = l.rows.items ≡ map row_in l.yielded
