use Rattle.std.proofs.Common.{◌≡◌, ◌++◌, take}
use Rattle.breach_lines.specs.Lines.{bad_lines}
use Rattle.breach_lines.proofs.others.append_bad_files.Given as goal

abbrev pub invariant-loop-i : goal.invariant-loop-i
invariant-loop-i l = l.out.items ≡ l.fn.out.items ++ bad_lines (take l.i l.bad)
