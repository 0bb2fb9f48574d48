use Rattle.std.proofs.Common.{◌≡◌, map}
use Rattle.set_findings.specs.Pieces.{marks_given}
use Rattle.set_findings.proofs.marks.marks_of_each.Given as goal

abbrev pub invariant-loop-answer : goal.invariant-loop-answer
invariant-loop-answer l = l.list.items ≡ map marks_given l.yielded
