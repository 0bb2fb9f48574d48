use Rattle.std.proofs.Common.{◌≡◌, take}
use Rattle.depend_check.specs.Uses.{lent}
use Rattle.depend_check.proofs.triggered.lend.Given as goal

-- those so far
abbrev pub invariant-loop-i : goal.invariant-loop-i
invariant-loop-i l = lent l.all.items ≡ take l.i l.depends
