use Rattle.std.proofs.Common.{◌≡◌, ◌++◌, ◌+◌, drop}
use Rattle.guide_warnings.specs.Rows.{components_warnings}
use Rattle.guide_warnings.proofs.rows.push_components.Given as goal

abbrev pub invariant-loop-i : goal.invariant-loop-i
invariant-loop-i l =
    l.found.items ++ components_warnings l.slot l.element (l.i + 1) (drop l.i l.components)
    ≡ l.initial.found.items ++ components_warnings l.slot l.element 1 l.components
