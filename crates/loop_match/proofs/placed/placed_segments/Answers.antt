use Rattle.std.proofs.Common.{sym, ap, ◌∙◌, option_map, List}
use Rattle.x12_segs.specs.Words.{elements_of}
use Rattle.guide_tree.specs.Words.{nodes_view}
use Rattle.loop_match.specs.PlacedSegments.{PlacedSegment, with_placed, placed_by}
use Rattle.loop_match.specs.Viewed.{placed_view}
use Rattle.loop_match.proofs.Collecting.{next_placed}
use Rattle.loop_match.proofs.placed.placed_segments.Goals as goal

pub loop-i-preserved : goal.loop-i-preserved
loop-i-preserved c =
    let next = option_map placed_view c.placed_by-next.result in
    c.in_ok-add_some.ensures
    ∙ ap (λ (placed : List PlacedSegment). with_placed placed next) c.loop-i.invariant
    ∙ sym (next_placed (nodes_view c.args.nodes.now) c.args.segs.now c.args.placing.now.given c.loop-i.i c.index-segs-i.result next
    c.index-segs-i.is c.loop-i-test.true
    (c.placed_by-next.ensures ∙ ap (placed_by (nodes_view c.args.nodes.now) c.loop-i.i (elements_of c.index-segs-i.result))
    c.place.ensures))
