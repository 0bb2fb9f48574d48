use Rattle.std.proofs.Common.{◌≡◌, ◌++◌, take}
use Rattle.hub_kinds.proofs.faults.Faults.append.Given as goal

abbrev pub invariant-loop-i : goal.invariant-loop-i
invariant-loop-i l = l.self ≡ l.fn.self ++ take l.i l.fn.others
