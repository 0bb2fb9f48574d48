use Rattle.std.proofs.Common.{◌≡◌, ◌++◌, take}
use Rattle.record_review.specs.Lines.{bad_lines}
use Rattle.record_review.proofs.lines.append_all_bad.Given as goal

abbrev pub invariant-loop-i : goal.invariant-loop-i
invariant-loop-i l = l.out.items ≡ l.fn.out.items ++ bad_lines (take l.i l.bad)
