use Rattle.std.proofs.Common.{◌≡◌, ◌+◌, ◌++◌, drop}
use Rattle.inner_headers.specs.Inner.{lines_from}
use Rattle.inner_headers.proofs.inner.inner_lines.Given as goal

abbrev pub invariant-loop-i : goal.invariant-loop-i
invariant-loop-i l = l.lines.items ++ lines_from l.text (l.i + 1) (drop l.i l.entries) ≡ lines_from l.text 1 l.entries
