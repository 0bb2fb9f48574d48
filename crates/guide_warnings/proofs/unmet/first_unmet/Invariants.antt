use Rattle.std.proofs.Common.{◌≡◌, ◌+◌, drop}
use Rattle.std.specs.List.{position_from}
use Rattle.guide_warnings.specs.Unmet.{is_unmet_element}
use Rattle.guide_warnings.proofs.unmet.first_unmet.Given as goal

abbrev pub invariant-loop-i : goal.invariant-loop-i
invariant-loop-i l =
    position_from is_unmet_element (l.i + 1) (drop l.i l.elements) ≡ position_from is_unmet_element 1 l.elements
