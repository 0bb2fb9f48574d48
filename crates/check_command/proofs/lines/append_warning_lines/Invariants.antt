use Rattle.std.proofs.Common.{◌≡◌, ◌++◌, drop}
use Rattle.check_command.specs.Lines.{warning_lines}
use Rattle.check_command.proofs.lines.append_warning_lines.Given as goal

abbrev pub invariant-loop-i : goal.invariant-loop-i
invariant-loop-i l = l.out.items ++ warning_lines l.path (drop l.i l.warnings) ≡ l.initial.out.items ++ warning_lines l.path l.warnings
