use Rattle.std.proofs.Common.{◌≡◌, ◌++◌, drop}
use Rattle.explain_command.specs.Reports.{lines_of}
use Rattle.explain_command.proofs.files.lines_of.Given as goal

abbrev pub invariant-loop-i : goal.invariant-loop-i
invariant-loop-i l = l.text.items ++ lines_of l.several (drop l.i l.files) ≡ lines_of l.several l.files
