use Rattle.std.proofs.Common.{◌++◌, ◌∷◌, [], List, map, take, ap, sym, ◌∙◌}
use Rattle.std.proofs.lemmas.List.{map-append, take_more}
use Rattle.loop_match.specs.declared.placed.PlacedSeg.{PlacedSeg}
use Rattle.loop_match.specs.PlacedSegments.{PlacedSegment}
use Rattle.loop_match.specs.Viewed.{placed_view, placed_views}
use Rattle.guide_tree.specs.Words.{Segment}
use Rattle.hl_check.specs.Hierarchy.{segments_of}
use Rattle.set_walk.specs.declared.kept.SlottedSeg.{SlottedSeg}
use Rattle.set_walk.specs.Kept.{segment_in}
use Rattle.set_walk.proofs.hierarchy.placed_of.Goals as goal

pub loop-i-preserved : goal.loop-i-preserved
loop-i-preserved c =
    let hls = c.args.hls.now in
    let i = c.loop-i.i in
    ap (λ (l : List PlacedSeg). segments_of (placed_views l)) c.in_ok-push.ensures.items
    ∙ ap segments_of (map-append placed_view c.loop-i.placed.items _)
    ∙ map-append (λ (h : PlacedSegment). h.segment) (placed_views c.loop-i.placed.items) _
    ∙ ap (λ (l : List Segment). l ++ segment_in c.index-hls-i.result ∷ []) c.loop-i.invariant
    ∙ ap (λ (x : SlottedSeg). map segment_in (take i hls) ++ segment_in x ∷ []) c.index-hls-i.is
    ∙ sym (map-append segment_in (take i hls) _)
    ∙ sym (ap (map segment_in) (take_more hls i c.index-hls-i.result c.loop-i-test.true))
