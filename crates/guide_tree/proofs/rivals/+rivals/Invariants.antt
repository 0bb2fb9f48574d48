use Rattle.std.proofs.Common.{◌≡◌, drop}
use Rattle.guide_tree.specs.Rivals.{least_rivals}
use Rattle.guide_tree.specs.View.{nodes_view}
use Rattle.guide_tree.proofs.rivals.+rivals.Given as goal

abbrev pub invariant-least_rivals-loop-i : goal.invariant-least_rivals-loop-i
invariant-least_rivals-loop-i l =
    least_rivals l.least (nodes_view (drop l.i l.nodes)) ≡ least_rivals l.fn.best (nodes_view (drop l.fn.from l.nodes))
