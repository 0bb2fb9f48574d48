use Rattle.std.proofs.Common.{◌≡◌, map}
use Rattle.set_findings.specs.Pieces.{heads_given}
use Rattle.set_findings.proofs.heads.heads_of_each.Given as goal

abbrev pub invariant-loop-answer : goal.invariant-loop-answer
invariant-loop-answer l = l.list.items ≡ map heads_given l.yielded
