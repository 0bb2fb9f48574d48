-- The segments of a body that have places are the same, each with its position, its slot and its loop.
use Rattle.std.specs.Prelude.{◌≡◌, List, map, None}
use Rattle.guide_tree.specs.Tree.{Trees}
use Rattle.guide_tree.specs.Nexts.{placing_of}
use Rattle.loop_match.specs.PlacedSegments.{placed_segments}
use Rattle.night_definition.specs.Segments.{Elements}
use Rattle.night_definition.specs.Places.{placing, uses}
use Rattle.night_equal_set.specs.Hl.{seen}

abbrev pub PlacedAreOne : Type 0
PlacedAreOne = (ts : Trees) (body : List Elements) → map seen (uses (placing ts None 2 body))
    ≡ placed_segments ts body (placing_of ts body)
