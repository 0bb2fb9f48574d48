use Rattle.std.proofs.Common.{◌≡◌, map, take}
use Rattle.hl_check.specs.Hierarchy.{segments_of}
use Rattle.loop_match.specs.Viewed.{placed_views}
use Rattle.set_walk.specs.Kept.{segment_in}
use Rattle.set_walk.proofs.hierarchy.placed_of.Given as goal

-- those so far
abbrev pub invariant-loop-i : goal.invariant-loop-i
invariant-loop-i l = segments_of (placed_views l.placed.items) ≡ map segment_in (take l.i l.hls)
