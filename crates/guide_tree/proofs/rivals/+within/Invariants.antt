use Rattle.std.proofs.Common.{◌≡◌, drop}
use Rattle.guide_tree.specs.Rivals.{within}
use Rattle.guide_tree.specs.View.{nodes_view}
use Rattle.guide_tree.proofs.rivals.+within.Given as goal

abbrev pub invariant-within_nodes-loop-i : goal.invariant-within_nodes-loop-i
invariant-within_nodes-loop-i l =
    within (nodes_view l.outer) l.least (nodes_view (drop l.i l.nodes)) ≡ within (nodes_view l.outer) l.fn.best
    (nodes_view (drop l.fn.from l.nodes))
