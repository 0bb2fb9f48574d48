use Rattle.std.proofs.Common.{◌≡◌, ◌+◌, drop}
use Rattle.guide_tree.specs.Words.{nodes_view, view}
use Rattle.guide_widening.specs.NodeDifferences.{before_same}
use Rattle.guide_widening.proofs.nodes.before_same.Given as goal

abbrev pub invariant-loop-i : goal.invariant-loop-i
invariant-loop-i l =
    l.i + before_same (view l.node) (nodes_view (drop l.i l.new)) ≡ before_same (view l.node) (nodes_view l.new)
