use Rattle.std.proofs.Common.{◌≡◌, ◌+◌, length, map, drop}
use Rattle.x12_segs.specs.Words.{elements_of}
use Rattle.guide_tree.specs.Words.{placing_of, structure_faults, guide_of, nodes_view}
use Rattle.loop_match.specs.Given.{given_of}
use Rattle.loop_match.specs.Steps.{given_behind, IsWalk}
use Rattle.loop_match.specs.Passed.{found_behind}
use Rattle.loop_match.proofs.pass.pass_all.Given as goal

-- what is given and found so far, with what the segments left will add, is what all give
abbrev pub invariant-loop-i : goal.invariant-loop-i
invariant-loop-i g l = IsWalk l.pass.walk l.i
    × (given_behind (nodes_view (g.N.NextPlace.guide l.next).nodes.items) l.pass.walk (map elements_of (drop l.i l.segs))
    ≡ given_of (nodes_view (g.N.NextPlace.guide l.next).nodes.items) (map elements_of l.segs))
    × (found_behind (guide_of (g.N.NextPlace.guide l.next)) (length l.segs + 2) (l.i + 2) l.pass (map elements_of (drop l.i l.segs))
    ≡ structure_faults (guide_of (g.N.NextPlace.guide l.next)) (length l.segs + 2) (map elements_of l.segs)
    (placing_of (nodes_view (g.N.NextPlace.guide l.next).nodes.items) (map elements_of l.segs)))
