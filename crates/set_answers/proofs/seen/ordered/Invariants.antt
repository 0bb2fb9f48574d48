use Rattle.std.proofs.Common.{take}
use Rattle.set_answers.specs.Known.{HasExactly}
use Rattle.set_answers.proofs.seen.ordered.Given as goal

-- the set has exactly the numbers so far
abbrev pub invariant-loop-index : goal.invariant-loop-index
invariant-loop-index g l = HasExactly g.K.Ord.cmp l.ordered (take l.index l.numbers)
