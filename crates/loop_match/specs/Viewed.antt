-- X12.6, order of segments in a transaction set (own): a placed segment as the definitions see it.
use Rattle.std.specs.Prelude.{List, map}
use Rattle.x12_segs.specs.Words.{elements_of}
use Rattle.loop_match.specs.declared.placed.PlacedSeg.{PlacedSeg}
use Rattle.loop_match.specs.PlacedSegments.{PlacedSegment}

abbrev pub placed_view : PlacedSeg → PlacedSegment
placed_view p = record { position = p.position; segment = elements_of p.seg.now; slot = p.slot.now; loop_id = p.loop_id.now }

abbrev pub placed_views : List PlacedSeg → List PlacedSegment
placed_views placed = map placed_view placed
