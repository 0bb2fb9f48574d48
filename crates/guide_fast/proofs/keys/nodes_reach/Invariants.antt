use Rattle.std.proofs.Common.{take}
use Rattle.guide_fast.specs.Keys.{begin_reach, Reaches}
use Rattle.guide_fast.proofs.keys.nodes_reach.Given as goal

abbrev pub invariant-loop-k : goal.invariant-loop-k
invariant-loop-k l = Reaches begin_reach l.reach (take l.k l.nodes)
