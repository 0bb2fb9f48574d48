use Rattle.guide_fast.proofs.KnownStarts.{IsStarted}
use Rattle.guide_fast.proofs.known.add_starts.Given as goal

abbrev pub invariant-loop-k : goal.invariant-loop-k
invariant-loop-k l = IsStarted l.depth l.from l.k l.fn.silent l.silent l.nodes l.fn.turns.items l.turns.items
