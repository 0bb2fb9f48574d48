use Rattle.std.proofs.Common.{◌≡◌, ◌++◌, take}
use Rattle.breach_lines.specs.Lines.{breach_lines}
use Rattle.breach_lines.proofs.breaches.append_breaches.Given as goal

abbrev pub invariant-loop-i : goal.invariant-loop-i
invariant-loop-i l = l.out.items ≡ l.fn.out.items ++ breach_lines (take l.i l.found)
