use Rattle.std.proofs.Common.{◌≡◌, drop}
use Rattle.set_answers.specs.Acknowledgments.{has_any, present}
use Rattle.set_answers.proofs.acknowledgment.has_any.Given as goal

abbrev pub invariant-loop-group : goal.invariant-loop-group
invariant-loop-group l = has_any (present (drop l.group-index l.groups)) ≡ has_any (present l.groups)
