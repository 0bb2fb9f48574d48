use Rattle.std.proofs.Common.{◌↔◌, take}
use Rattle.std.specs.Prelude.{IfSome}
use Rattle.std.specs.List.{Contains}
use Rattle.hub_kinds.specs.declared.fault.Fault.{Fault}
use Rattle.guide_tree.specs.Words.{nodes_view}
use Rattle.loop_match.specs.Viewed.{placed_views}
use Rattle.depend_check.specs.Uses.{IsBrokenAmong, lent}
use Rattle.depend_check.proofs.asked.find_broken.Given as goal

-- what is reported of those so far, and the last of them
abbrev pub invariant-loop-i : goal.invariant-loop-i
invariant-loop-i l =
    record {
      before : IfSome l.before (λ b. Contains (lent (take l.i l.asked)) b.now);
      told : (f : Fault) → Contains l.faults f
          ↔ IsBrokenAmong (nodes_view l.nodes) l.delims l.end (placed_views l.placed) (lent (take l.i l.asked)) f;
    }
