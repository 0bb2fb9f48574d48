use Rattle.std.proofs.Common.{take}
use Rattle.guide_fast.specs.Keys.{lent_reach, Reaches}
use Rattle.guide_fast.proofs.keys.slots_reach.Given as goal

abbrev pub invariant-loop-k : goal.invariant-loop-k
invariant-loop-k l = Reaches lent_reach l.reach (take l.k l.slots)
