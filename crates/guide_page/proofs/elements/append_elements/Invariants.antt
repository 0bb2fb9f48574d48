use Rattle.std.proofs.Common.{◌≡◌, ◌++◌, ◌+◌, drop}
use Rattle.guide_page.specs.Elements.{element_rows}
use Rattle.guide_page.proofs.elements.append_elements.Given as goal

abbrev pub invariant-loop-i : goal.invariant-loop-i
invariant-loop-i l = l.out.items ++ element_rows l.names l.id (l.i + 1) (drop l.i l.elements) ≡ l.initial.out.items ++ element_rows
    l.names l.id 1
    l.elements
