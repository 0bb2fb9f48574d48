use Rattle.std.proofs.Common.{◌≡◌, ◌++◌, drop}
use Rattle.guide_widening.specs.Changes.{items_differences}
use Rattle.guide_widening.specs.NodeDifferences.{at_node}
use Rattle.guide_widening.specs.Differences.{dependency_value}
use Rattle.guide_widening.specs.Rules.{is_dependency_kept}
use Rattle.guide_widening.specs.declared.difference.Change.TheVariants.{Wider}
use Rattle.guide_widening.specs.declared.difference.Key.TheVariants as key
use Rattle.guide_widening.specs.declared.difference.Value.TheVariants as value
use Rattle.guide_widening.proofs.dependencies.push_each_gone.Given as goal

abbrev pub invariant-loop-i : goal.invariant-loop-i
invariant-loop-i l =
    l.found.items ++ items_differences (is_dependency_kept l.new) (at_node 0) key.Dependency Wider dependency_value
    (λ d. value.Nothing) (drop l.i l.old)
    ≡ l.initial.found.items ++ items_differences (is_dependency_kept l.new) (at_node 0) key.Dependency Wider dependency_value
    (λ d. value.Nothing) l.old
