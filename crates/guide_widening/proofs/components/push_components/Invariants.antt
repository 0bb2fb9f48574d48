use Rattle.std.proofs.Common.{◌≡◌, ◌++◌, ◌+◌, drop}
use Rattle.guide_widening.specs.RowDifferences.{components_differences}
use Rattle.guide_widening.proofs.components.push_components.Given as goal

abbrev pub invariant-loop-i : goal.invariant-loop-i
invariant-loop-i l =
    l.found.items ++ components_differences l.at (l.i + 1) (drop l.i l.old) (drop l.i l.new)
    ≡ l.initial.found.items ++ components_differences l.at 1 l.old l.new
