use Rattle.std.proofs.Common.{◌≡◌, ◌++◌, drop}
use Rattle.check_command.specs.Lines.{other_lines}
use Rattle.check_command.proofs.all_lines.append_others.Given as goal

abbrev pub invariant-loop-i : goal.invariant-loop-i
invariant-loop-i l =
    l.out.items ++ other_lines l.path l.text (drop l.i l.said) ≡ l.initial.out.items ++ other_lines l.path l.text l.said
