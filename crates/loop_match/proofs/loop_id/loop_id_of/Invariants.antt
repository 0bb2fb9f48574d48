use Rattle.std.proofs.Common.{◌≡◌, drop}
use Rattle.guide_tree.specs.Words.{nodes_view}
use Rattle.loop_match.specs.Steps.{place_view}
use Rattle.loop_match.specs.LoopIds.{loop_id_of, loop_id_under}
use Rattle.loop_match.proofs.loop_id.loop_id_of.Given as goal

-- what is found further down is what is found from the beginning
abbrev pub invariant-loop-i : goal.invariant-loop-i
invariant-loop-i l = loop_id_under l.outer (nodes_view l.inside) (place_view (drop l.i l.place))
    ≡ loop_id_of (nodes_view l.nodes) (place_view l.place)
