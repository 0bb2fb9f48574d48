use Rattle.std.proofs.Common.{◌≡◌, ◌++◌, drop}
use Rattle.explain_command.specs.Reports.{failure_lines}
use Rattle.explain_command.proofs.files.failure_lines.Given as goal

abbrev pub invariant-loop-i : goal.invariant-loop-i
invariant-loop-i l = l.text.items ++ failure_lines l.several (drop l.i l.files) ≡ failure_lines l.several l.files
