use Rattle.std.proofs.Common.{◌≡◌, ◌∷◌, ◌++◌, List, length}
use Rattle.x12_segs.specs.Words.{SegValue, span_views}
use Rattle.guide_tree.specs.Words.{guide_of}
use Rattle.set_walk.specs.Walked.{IsSeen}
use Rattle.set_walk.proofs.whole.walk_set.Given as goal

-- the segments so far were seen, and the others are still to come
abbrev pub invariant-loop-seg : goal.invariant-loop-seg
invariant-loop-seg l =
    (done : List SegValue) × IsSeen (guide_of l.fast) l.seen done × (span_views l.text l.set ≡ l.header ∷ (done ++ l.segs.left))

abbrev pub decreases-loop-seg : goal.decreases-loop-seg
decreases-loop-seg l = length l.segs.left
