use Rattle.std.proofs.Common.{◌≡◌, ◌++◌}
use Rattle.guide_tree.specs.Words.{nodes_view, numbered}
use Rattle.setup_errors.specs.NodesSaid.{faults_up_to}
use Rattle.setup_errors.proofs.nodes_said.push_up_to.Given as goal

abbrev pub invariant-loop-before : goal.invariant-loop-before
invariant-loop-before l = l.found.items ≡ l.initial.found.items ++ faults_up_to l.before (numbered 1 (nodes_view l.nodes))
