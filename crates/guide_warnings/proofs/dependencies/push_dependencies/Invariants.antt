use Rattle.std.proofs.Common.{◌≡◌, ◌+◌, ◌++◌, drop}
use Rattle.guide_tree.specs.Words.{nodes_view}
use Rattle.guide_warnings.specs.Dependencies.{dependency_warnings}
use Rattle.guide_warnings.proofs.dependencies.push_dependencies.Given as goal

abbrev pub invariant-loop-i : goal.invariant-loop-i
invariant-loop-i l =
    l.found.items ++ dependency_warnings (nodes_view l.guide.nodes.items) (l.i + 1) (drop l.i l.depends)
    ≡ l.initial.found.items ++ dependency_warnings (nodes_view l.guide.nodes.items) 1 l.depends
