use Rattle.std.proofs.Common.{◌≡◌, ◌++◌, take}
use Rattle.breach_lines.specs.Keys.{unspaced}
use Rattle.breach_lines.proofs.key.append_unspaced.Given as goal

abbrev pub invariant-loop-i : goal.invariant-loop-i
invariant-loop-i l = l.out.items ≡ l.fn.out.items ++ unspaced (take l.i l.id)
