use Rattle.std.proofs.Common.{◌≡◌, drop}
use Rattle.guide_tree.specs.Words.{slot_at, nodes_view}
use Rattle.loop_match.specs.Steps.{place_view}
use Rattle.loop_match.proofs.place.slot_at.Given as goal

-- what is found further down is what is found from the beginning
abbrev pub invariant-loop-i : goal.invariant-loop-i
invariant-loop-i l = slot_at (nodes_view l.inside) (place_view (drop l.i l.place)) ≡ slot_at (nodes_view l.nodes) (place_view l.place)
