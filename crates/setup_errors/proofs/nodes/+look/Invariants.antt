use Rattle.std.proofs.Common.{◌≡◌, drop}
use Rattle.guide_tree.specs.Words.{nodes_view}
use Rattle.setup_errors.specs.Search.{found}
use Rattle.setup_errors.proofs.nodes.+look.Given as goal

abbrev pub decreases-look : goal.decreases-look
decreases-look l = goal.size-look l

abbrev pub invariant-loop-node : goal.invariant-loop-node
invariant-loop-node l = found (nodes_view (drop l.node-index l.nodes)) l.left ≡ found (nodes_view l.nodes) l.place
