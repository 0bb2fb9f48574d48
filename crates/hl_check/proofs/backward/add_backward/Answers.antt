use Rattle.std.proofs.Common.{◌≡◌, ◌-◌, ◌∷◌, List, drop, sym, subst, arith}
use Rattle.loop_match.specs.PlacedSegments.{PlacedSegment}
use Rattle.hl_check.specs.Hierarchy.{segments_of}
use Rattle.loop_match.specs.Viewed.{placed_view, placed_views}
use Rattle.hl_check.specs.Known.{KnowsNamed}
use Rattle.hl_check.proofs.Viewing.{drop_views}
use Rattle.hl_check.proofs.Walking.{backward_more}
use Rattle.hl_check.proofs.backward.add_backward.Goals as goal

pub loop-left-preserved : goal.loop-left-preserved
loop-left-preserved c =
    let later : List PlacedSegment = placed_views (drop c.loop-left.left c.args.hls.now) in
    let all : List PlacedSegment = placed_views (drop (c.loop-left.left - 1) c.args.hls.now) in
    let known = c.loop-left.invariant.named in
    let e : all ≡ placed_view c.index-hls-left.result ∷ later =
    drop_views c.args.hls.now (c.loop-left.left - 1) c.loop-left.left c.index-hls-left.result c.index-hls-left.is (omega arith)
    (omega arith) in
    record {
      within = omega arith;
      named = subst (λ (l : List PlacedSegment). KnowsNamed c.add_before.new.named c.args.delims (segments_of l)) (sym e)
          (c.in_ok-add_before.ensures.named (segments_of later) known);
      told = backward_more c.args.faults.now c.loop-left.faults c.add_before.new.faults c.args.delims
          (placed_view c.index-hls-left.result) later all e c.loop-left.invariant.told
          (c.in_ok-add_before.ensures.faults (segments_of later) known);
    }
