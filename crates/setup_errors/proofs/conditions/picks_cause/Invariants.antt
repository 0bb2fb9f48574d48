use Rattle.std.proofs.Common.{◌≡◌, drop}
use Rattle.setup_errors.specs.Conditions.{picks_cause}
use Rattle.setup_errors.proofs.conditions.picks_cause.Given as goal

abbrev pub invariant-loop-i : goal.invariant-loop-i
invariant-loop-i l = picks_cause l.slot (drop l.i l.picks) ≡ picks_cause l.slot l.picks
