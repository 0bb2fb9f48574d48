use Rattle.std.proofs.Common.{◌≡◌, drop}
use Rattle.guide_tree.specs.Rules.{keeps, first_failing}
use Rattle.guide_tree.specs.View.{nodes_view}
use Rattle.guide_tree.proofs.judge.+first_breaking.Given as goal

abbrev pub decreases-first_breaking : goal.decreases-first_breaking
decreases-first_breaking l = goal.size-first_breaking l

abbrev pub invariant-loop-node : goal.invariant-loop-node
invariant-loop-node l =
    first_failing (keeps l.rule (nodes_view l.all)) (nodes_view (drop l.node-index l.nodes)) ≡ first_failing
    (keeps l.rule (nodes_view l.all)) (nodes_view l.nodes)
