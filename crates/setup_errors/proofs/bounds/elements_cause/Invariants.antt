use Rattle.std.proofs.Common.{◌≡◌, ◌+◌, drop}
use Rattle.setup_errors.specs.Bounds.{elements_cause}
use Rattle.setup_errors.proofs.bounds.elements_cause.Given as goal

abbrev pub invariant-loop-i : goal.invariant-loop-i
invariant-loop-i l = elements_cause (l.i + 1) (drop l.i l.elements) ≡ elements_cause 1 l.elements
