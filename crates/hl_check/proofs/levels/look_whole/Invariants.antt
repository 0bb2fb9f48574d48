use Rattle.std.proofs.Common.{List}
use Rattle.guide_tree.specs.Words.{Segment}
use Rattle.hl_check.specs.Levels.{LooksWholeTo}
use Rattle.hl_check.specs.Names.{AreNames}
use Rattle.hl_check.proofs.levels.look_whole.Given as goal

-- those so far look whole
abbrev pub invariant-loop-count : goal.invariant-loop-count
invariant-loop-count l = (hls : List Segment) → AreNames l.names hls → LooksWholeTo l.rule l.delims hls l.count
