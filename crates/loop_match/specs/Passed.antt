-- 999 guide, IK304: what a pass will have found once it went over a body. Private.
use Rattle.std.specs.Prelude.{ℕ, List, ◌++◌}
use Rattle.hub_kinds.specs.declared.fault.Fault.{Fault}
use Rattle.guide_tree.specs.Words.{GuideTree, Segment, placing_from, pass}
use Rattle.loop_match.specs.Steps.{place_view, last_of}
use Rattle.loop_match.specs.declared.pass.Pass.{Pass}

-- the faults found, and those of the body from a position on
abbrev pub found_behind : GuideTree → (end at : ℕ) → Pass → List Segment → List Fault
found_behind g end at p body =
    p.found ++ pass g end at (last_of (place_view p.walk.last.items)) body
    (placing_from g.nodes (last_of (place_view p.walk.last.items)) body)
