use Rattle.std.proofs.Common.{◌≡◌, ◌++◌, ◌+◌, drop}
use Rattle.guide_warnings.specs.Rows.{elements_warnings}
use Rattle.guide_warnings.proofs.rows.push_elements.Given as goal

abbrev pub invariant-loop-i : goal.invariant-loop-i
invariant-loop-i l =
    l.found.items ++ elements_warnings l.slot (l.i + 1) (drop l.i l.elements)
    ≡ l.initial.found.items ++ elements_warnings l.slot 1 l.elements
