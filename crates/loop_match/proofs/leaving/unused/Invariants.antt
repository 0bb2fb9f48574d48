use Rattle.std.proofs.Common.{◌≡◌, ◌++◌, drop}
use Rattle.guide_tree.specs.Words.{unused, nodes_view}
use Rattle.loop_match.proofs.leaving.unused.Given as goal

abbrev pub invariant-loop-k : goal.invariant-loop-k
invariant-loop-k l =
    l.found ++ unused l.at l.outer (nodes_view (drop l.k l.nodes))
    ≡ l.initial.found ++ unused l.at l.outer (nodes_view (drop l.from l.nodes))
