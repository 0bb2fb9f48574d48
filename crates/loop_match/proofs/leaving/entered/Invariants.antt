use Rattle.std.proofs.Common.{◌≡◌, ◌++◌, ◌-◌, ◌≤◌, drop}
use Rattle.guide_tree.specs.Words.{entered, nodes_view}
use Rattle.loop_match.proofs.leaving.entered.Given as goal

abbrev pub invariant-loop-k : goal.invariant-loop-k
invariant-loop-k l =
    (l.k ≤ l.to.child)
    × (l.found ++ entered l.at l.outer (nodes_view (drop l.k l.nodes)) (l.to.child - l.k) l.to.use_no
    ≡ l.initial.found ++ entered l.at l.outer (nodes_view (drop l.from l.nodes)) (l.to.child - l.from) l.to.use_no)
