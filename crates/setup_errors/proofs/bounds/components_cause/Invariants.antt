use Rattle.std.proofs.Common.{◌≡◌, ◌+◌, drop}
use Rattle.setup_errors.specs.Bounds.{components_cause}
use Rattle.setup_errors.proofs.bounds.components_cause.Given as goal

abbrev pub invariant-loop-i : goal.invariant-loop-i
invariant-loop-i l = components_cause (l.i + 1) (drop l.i l.components) ≡ components_cause 1 l.components
