use Rattle.std.proofs.Common.{◌≡◌, nat_le, drop}
use Rattle.guide_tree.specs.Tree.{nesting}
use Rattle.guide_tree.specs.View.{nodes_view}
use Rattle.guide_tree.proofs.limits.+nests_within.Given as goal

abbrev pub decreases-nests_within : goal.decreases-nests_within
decreases-nests_within l = goal.size-nests_within l

abbrev pub invariant-loop-node : goal.invariant-loop-node
invariant-loop-node l =
    nat_le (nesting (nodes_view (drop l.node-index l.nodes))) l.limit ≡ nat_le (nesting (nodes_view l.nodes)) l.limit
