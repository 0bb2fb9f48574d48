use Rattle.std.proofs.Common.{◌≡◌, ◌++◌, drop}
use Rattle.check_command.specs.Lines.{all_lines, lines_from}
use Rattle.check_command.proofs.all_lines.all_lines.Given as goal

abbrev pub invariant-loop-i : goal.invariant-loop-i
invariant-loop-i l = l.text.items ++ lines_from l.i (drop l.i l.files) l.all ≡ all_lines l.files l.all
