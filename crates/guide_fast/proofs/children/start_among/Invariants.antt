use Rattle.std.proofs.Common.{◌≡◌, drop}
use Rattle.x12_segs.specs.Words.{elements_of}
use Rattle.guide_tree.specs.Words.{nodes_view, fit_starts}
use Rattle.guide_fast.specs.FirstPick.{HasValue}
use Rattle.guide_fast.proofs.children.start_among.Given as goal

abbrev pub invariant-loop-k : goal.invariant-loop-k
invariant-loop-k l =
    (fit_starts (elements_of l.seg) l.k (nodes_view (drop l.k l.nodes))
    ≡ fit_starts (elements_of l.seg) l.from (nodes_view (drop l.from l.nodes)))
    × HasValue (elements_of l.seg) l.asked
