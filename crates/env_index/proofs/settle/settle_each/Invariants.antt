use Rattle.std.proofs.Common.{◌≡◌, ◌++◌, take, drop}
use Rattle.env_index.specs.Settled.{with_faults}
use Rattle.env_index.proofs.settle.settle_each.Given as goal

abbrev pub invariant-loop-i : goal.invariant-loop-i
invariant-loop-i l = take l.i l.entries ++ with_faults (drop l.i l.entries) (drop l.i l.faults) ≡ with_faults l.fn.entries l.faults
