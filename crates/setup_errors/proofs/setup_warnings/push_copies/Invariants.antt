use Rattle.std.proofs.Common.{◌≡◌, ◌++◌, drop}
use Rattle.setup_errors.proofs.setup_warnings.push_copies.Given as goal

abbrev pub invariant-loop-i : goal.invariant-loop-i
invariant-loop-i l = l.names.items ++ drop l.i l.more ≡ l.initial.names.items ++ l.more
