use Rattle.std.proofs.Common.{◌≡◌, ◌+◌, [], ◌∷◌, List, length, take, sym, subst, ap, ◌∙◌, arith}
use Rattle.std.proofs.lemmas.List.{length-map, length-take-le, map-append}
use Rattle.loop_match.specs.PlacedSegments.{PlacedSegment}
use Rattle.hl_check.specs.Hierarchy.{segments_of}
use Rattle.loop_match.specs.Viewed.{placed_view, placed_views}
use Rattle.hl_check.specs.Known.{KnowsLevels}
use Rattle.hl_check.proofs.Viewing.{view_there, take_views}
use Rattle.hl_check.proofs.Walking.{forward_more}
use Rattle.hl_check.proofs.forward.add_forward.Goals as goal

pub loop-i-preserved : goal.loop-i-preserved
loop-i-preserved c =
    let hls : List PlacedSegment = placed_views c.args.hls.now in
    let earlier : List PlacedSegment = take c.loop-i.i hls in
    let known = c.loop-i.invariant.levels in
    let n : length hls ≡ length c.args.hls.now = length-map c.args.hls.now placed_view in
    let count : c.loop-i.i + 1 ≡ length (segments_of earlier) + 1 =
    (let k : length earlier ≡ c.loop-i.i = length-take-le c.loop-i.i hls (omega arith) in
    let s : length (segments_of earlier) ≡ length earlier = length-map earlier (λ h. h.segment) in omega arith) in
    record {
      levels = subst (KnowsLevels c.add_behind.new.levels)
          (sym (ap segments_of (take_views c.args.hls.now c.loop-i.i c.index-hls-i.result c.index-hls-i.is (omega arith))
          ∙ map-append (λ h. h.segment) earlier (placed_view c.index-hls-i.result ∷ [])))
          (c.in_ok-add_behind.ensures.levels (segments_of earlier) known);
      told = forward_more c.args.faults.now c.loop-i.faults c.add_behind.new.faults c.args.rule.now c.args.delims hls
          c.loop-i.i (placed_view c.index-hls-i.result) (view_there c.args.hls.now c.loop-i.i c.index-hls-i.result c.index-hls-i.is
          (omega arith))
          c.loop-i.invariant.told (c.in_ok-add_behind.ensures.faults (segments_of earlier) known count);
    }
