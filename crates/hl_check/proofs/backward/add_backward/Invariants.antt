use Rattle.std.proofs.Common.{◌≡◌, ◌++◌, ◌≤◌, length, drop}
use Rattle.hl_check.specs.Hierarchy.{segments_of}
use Rattle.hl_check.specs.Found.{backward_faults}
use Rattle.loop_match.specs.Viewed.{placed_views}
use Rattle.hl_check.specs.Known.{KnowsNamed}
use Rattle.hl_check.proofs.backward.add_backward.Given as goal

-- what is reported of the later ones, and the numbers that they name
abbrev pub invariant-loop-left : goal.invariant-loop-left
invariant-loop-left l =
    record {
      within : l.left ≤ length l.hls;
      named : KnowsNamed l.named l.delims (segments_of (placed_views (drop l.left l.hls)));
      told : l.faults ≡ l.fn.faults ++ backward_faults l.delims (placed_views (drop l.left l.hls));
    }

abbrev pub decreases-loop-left : goal.decreases-loop-left
decreases-loop-left l = l.left
