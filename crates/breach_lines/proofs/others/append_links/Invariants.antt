use Rattle.std.proofs.Common.{◌≡◌, ◌++◌, take}
use Rattle.breach_lines.specs.Lines.{link_lines}
use Rattle.breach_lines.proofs.others.append_links.Given as goal

abbrev pub invariant-loop-i : goal.invariant-loop-i
invariant-loop-i l = l.out.items ≡ l.fn.out.items ++ link_lines (take l.i l.links)
