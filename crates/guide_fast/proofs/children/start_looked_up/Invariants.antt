use Rattle.std.proofs.Common.{length, drop}
use Rattle.x12_segs.specs.Words.{elements_of}
use Rattle.guide_fast.proofs.LookedUp.{fit_told, IsFirst}
use Rattle.guide_fast.proofs.children.start_looked_up.Given as goal

-- the first that was found by the elements so far
abbrev pub invariant-loop-position : goal.invariant-loop-position
invariant-loop-position l =
    IsFirst (length l.nodes) l.first l.end (fit_told (elements_of l.seg) l.position l.from (drop l.from l.nodes))
