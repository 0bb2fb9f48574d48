use Rattle.std.proofs.Common.{◌≡◌, drop}
use Rattle.x12_segs.specs.Words.{elements_of}
use Rattle.guide_fast.specs.Children.{fit_listed, until}
use Rattle.guide_fast.specs.FirstPick.{HasValue}
use Rattle.guide_fast.proofs.children.first_fitting.Given as goal

abbrev pub invariant-loop-i : goal.invariant-loop-i
invariant-loop-i l =
    (fit_listed (elements_of l.seg) l.nodes (until l.end (drop l.i l.children))
    ≡ fit_listed (elements_of l.seg) l.nodes (until l.end l.children))
    × HasValue (elements_of l.seg) l.asked
