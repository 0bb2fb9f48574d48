use Rattle.std.proofs.Common.{take}
use Rattle.guide_fast.specs.Listed.{Knows}
use Rattle.guide_fast.proofs.strays.texts_of.Given as goal

abbrev pub invariant-loop-k : goal.invariant-loop-k
invariant-loop-k l = Knows l.index.places (take l.k l.texts)
