use Rattle.std.proofs.Common.{◌≡◌, ◌++◌, drop}
use Rattle.guide_widening.specs.Changes.{items_differences}
use Rattle.guide_widening.specs.NodeDifferences.{condition_value, is_condition_in}
use Rattle.guide_widening.specs.declared.difference.Change.TheVariants.{Narrower}
use Rattle.guide_widening.specs.declared.difference.Key.TheVariants as key
use Rattle.guide_widening.specs.declared.difference.Value.TheVariants as value
use Rattle.guide_widening.proofs.conditions.push_each_new.Given as goal

abbrev pub invariant-loop-i : goal.invariant-loop-i
invariant-loop-i l =
    l.found.items ++ items_differences (is_condition_in l.old) l.at key.Condition Narrower (λ c. value.Nothing) condition_value
    (drop l.i l.new)
    ≡ l.initial.found.items ++ items_differences (is_condition_in l.old) l.at key.Condition Narrower
    (λ c. value.Nothing) condition_value l.new
