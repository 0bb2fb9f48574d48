use Rattle.std.proofs.Common.{take}
use Rattle.std.specs.List.{AllZip}
use Rattle.set_findings.proofs.Answering.{IsFaultAt}
use Rattle.set_findings.proofs.judged.faults_of_each.Given as goal

abbrev pub invariant-loop-i : goal.invariant-loop-i
invariant-loop-i l = AllZip IsFaultAt (take l.i l.done) l.faults.items
