use Rattle.std.proofs.Common.{◌≡◌, ◌++◌, ◌+◌, drop}
use Rattle.guide_page.specs.Elements.{component_rows}
use Rattle.guide_page.proofs.elements.append_components.Given as goal

abbrev pub invariant-loop-i : goal.invariant-loop-i
invariant-loop-i l =
    l.out.items ++ component_rows l.names l.name (l.i + 1) (drop l.i l.components) ≡ l.initial.out.items ++ component_rows l.names l.name
    1 l.components
