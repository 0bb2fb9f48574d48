use Rattle.std.proofs.Common.{◌≡◌, ◌++◌, drop, true}
use Rattle.explain_command.specs.Reports.{named_lines}
use Rattle.explain_command.proofs.files.append_named.Given as goal

abbrev pub invariant-loop-i : goal.invariant-loop-i
invariant-loop-i l =
    l.out.items ++ named_lines l.name l.begins (drop l.i l.lines) ≡ l.initial.out.items ++ named_lines l.name true l.lines
