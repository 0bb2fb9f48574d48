use Rattle.std.proofs.Common.{◌≡◌, ◌++◌, drop}
use Rattle.guide_tree.specs.Words.{nodes_view}
use Rattle.names_file.specs.GuideSubjects.{nodes_of}
use Rattle.names_file.proofs.guide_subjects.+walk.Given as goal

abbrev pub invariant-push_nodes-loop-node : goal.invariant-push_nodes-loop-node
invariant-push_nodes-loop-node l =
    l.found.items ++ nodes_of (nodes_view (drop l.node-index l.nodes)) ≡ l.initial.found.items ++ nodes_of (nodes_view l.nodes)
