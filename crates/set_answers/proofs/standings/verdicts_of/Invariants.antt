use Rattle.std.proofs.Common.{◌≡◌, take}
use Rattle.ack_999.specs.Group.{verdicts_of}
use Rattle.set_answers.proofs.standings.verdicts_of.Given as goal

abbrev pub invariant-loop-set : goal.invariant-loop-set
invariant-loop-set l = l.verdicts.items ≡ verdicts_of (take l.set-index l.sets)
