use Rattle.std.proofs.Common.{◌≡◌, ◌++◌, ◌+◌, drop}
use Rattle.guide_widening.specs.RowDifferences.{elements_differences}
use Rattle.guide_widening.proofs.elements.push_elements.Given as goal

abbrev pub invariant-loop-i : goal.invariant-loop-i
invariant-loop-i l =
    l.found.items ++ elements_differences l.at (l.i + 1) (drop l.i l.old) (drop l.i l.new)
    ≡ l.initial.found.items ++ elements_differences l.at 1 l.old l.new
