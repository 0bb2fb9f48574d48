use Rattle.std.proofs.Common.{◌≡◌, ◌++◌, take}
use Rattle.hl_check.specs.Hierarchy.{segments_of}
use Rattle.hl_check.specs.Found.{forward_faults}
use Rattle.loop_match.specs.Viewed.{placed_views}
use Rattle.hl_check.specs.Known.{KnowsLevels}
use Rattle.hl_check.proofs.forward.add_forward.Given as goal

-- the levels of those so far, and what is reported of them
abbrev pub invariant-loop-i : goal.invariant-loop-i
invariant-loop-i l =
    record {
      levels : KnowsLevels l.levels (segments_of (take l.i (placed_views l.hls)));
      told : l.faults ≡ l.fn.faults ++ forward_faults l.rule l.delims (placed_views l.hls) l.i;
    }
