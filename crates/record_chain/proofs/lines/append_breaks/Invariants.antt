use Rattle.std.proofs.Common.{◌≡◌, ◌++◌, take}
use Rattle.record_chain.specs.Lines.{break_lines}
use Rattle.record_chain.proofs.lines.append_breaks.Given as goal

abbrev pub invariant-loop-i : goal.invariant-loop-i
invariant-loop-i l = l.out.items ≡ l.fn.out.items ++ break_lines (take l.i l.found)
