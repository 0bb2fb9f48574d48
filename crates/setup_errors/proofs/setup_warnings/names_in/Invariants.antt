use Rattle.std.proofs.Common.{◌≡◌, ◌++◌, drop}
use Rattle.setup_errors.specs.SetupWarnings.{names_in}
use Rattle.setup_errors.proofs.setup_warnings.names_in.Given as goal

abbrev pub invariant-loop-i : goal.invariant-loop-i
invariant-loop-i g l = l.names.items ++ names_in g.T.Naming.named (drop l.i l.rows) ≡ names_in g.T.Naming.named l.rows
