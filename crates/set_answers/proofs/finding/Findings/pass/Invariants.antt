use Rattle.std.proofs.Common.{◌≡◌, drop}
use Rattle.set_answers.proofs.finding.Findings.pass.Given as goal

abbrev pub invariant-loop : goal.invariant-loop
invariant-loop l = l.self ≡ drop l.counter l.initial.self
