use Rattle.std.proofs.Common.{◌≡◌, ◌++◌, drop}
use Rattle.guide_widening.specs.Changes.{items_differences}
use Rattle.guide_widening.specs.NodeDifferences.{at_node}
use Rattle.guide_widening.specs.Differences.{is_pair_in, pair_value}
use Rattle.guide_widening.specs.declared.difference.Change.TheVariants.{Wider}
use Rattle.guide_widening.specs.declared.difference.Key.TheVariants as key
use Rattle.guide_widening.specs.declared.difference.Value.TheVariants as value
use Rattle.guide_widening.proofs.hierarchy.push_each_new.Given as goal

abbrev pub invariant-loop-i : goal.invariant-loop-i
invariant-loop-i l =
    l.found.items ++ items_differences (is_pair_in l.old) (at_node 0) key.Pair Wider (λ p. value.Nothing) pair_value (drop l.i l.new)
    ≡ l.initial.found.items ++ items_differences (is_pair_in l.old) (at_node 0) key.Pair Wider (λ p. value.Nothing) pair_value l.new
