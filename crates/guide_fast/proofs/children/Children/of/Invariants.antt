use Rattle.std.proofs.Common.{take}
use Rattle.guide_fast.specs.Listed.{Knows}
use Rattle.guide_fast.specs.Keys.{begin_keys}
use Rattle.guide_fast.proofs.children.Children.of.Given as goal

-- the texts of the nodes so far
abbrev pub invariant-loop-k : goal.invariant-loop-k
invariant-loop-k l = Knows l.index.places (begin_keys (take l.k l.nodes))
