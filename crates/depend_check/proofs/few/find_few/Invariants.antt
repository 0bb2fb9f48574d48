use Rattle.std.proofs.Common.{◌↔◌, take}
use Rattle.std.specs.List.{Contains}
use Rattle.hub_kinds.specs.declared.fault.Fault.{Fault}
use Rattle.guide_tree.specs.Words.{nodes_view}
use Rattle.loop_match.specs.Viewed.{placed_views}
use Rattle.depend_check.specs.Uses.{IsFound}
use Rattle.depend_check.proofs.few.find_few.Given as goal

-- what is reported of those so far
abbrev pub invariant-loop-i : goal.invariant-loop-i
invariant-loop-i l = (f : Fault) → Contains l.faults f
    ↔ IsFound (nodes_view l.nodes) l.delims l.end (placed_views l.placed) (take l.i l.depends) f
