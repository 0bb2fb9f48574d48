use Rattle.std.proofs.Common.{map}
use Rattle.guide_tree.specs.Words.{nodes_view}
use Rattle.loop_match.specs.Given.{place_in}
use Rattle.set_walk.specs.Told.{Adds}
use Rattle.set_check.specs.Adding.{IsErrorBelow}
use Rattle.set_check.proofs.elements.add_elements.Given as goal

abbrev pub invariant-loop-i : goal.invariant-loop-i
invariant-loop-i l =
    Adds l.initial.faults l.faults (IsErrorBelow (nodes_view l.nodes) l.segs (map place_in l.placing.given) l.i)
