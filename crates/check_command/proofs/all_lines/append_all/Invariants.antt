use Rattle.std.proofs.Common.{◌≡◌, ◌++◌, drop}
use Rattle.check_command.specs.Lines.{said_lines}
use Rattle.check_command.proofs.all_lines.append_all.Given as goal

abbrev pub invariant-loop-i : goal.invariant-loop-i
invariant-loop-i l = l.out.items ++ said_lines l.path (drop l.i l.said) ≡ l.initial.out.items ++ said_lines l.path l.said
