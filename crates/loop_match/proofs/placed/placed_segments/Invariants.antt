use Rattle.std.proofs.Common.{◌≡◌, map}
use Rattle.x12_segs.specs.Words.{elements_of}
use Rattle.guide_tree.specs.Words.{nodes_view}
use Rattle.loop_match.specs.Given.{place_in}
use Rattle.loop_match.specs.PlacedSegments.{placed_among_first}
use Rattle.loop_match.specs.Viewed.{placed_views}
use Rattle.loop_match.proofs.placed.placed_segments.Given as goal

-- those of the segments so far
abbrev pub invariant-loop-i : goal.invariant-loop-i
invariant-loop-i l =
    placed_views l.placed.items ≡ placed_among_first (nodes_view l.nodes) (map elements_of l.segs) (map place_in l.placing.given) l.i
