use Rattle.std.proofs.Common.{◌≡◌, drop, false}
use Rattle.explain_command.specs.Ends as ends
use Rattle.explain_command.proofs.ends.ends_open.Given as goal

abbrev pub invariant-loop-i : goal.invariant-loop-i
invariant-loop-i l = ends.ends_open l.terminator l.is_open (drop l.i l.text) ≡ ends.ends_open l.terminator false l.text
