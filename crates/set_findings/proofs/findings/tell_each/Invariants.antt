use Rattle.set_findings.specs.Findings.{IsFindingOf}
use Rattle.set_findings.proofs.Marking.{AreToldSoFar}
use Rattle.set_findings.proofs.findings.tell_each.Given as goal

abbrev pub invariant-loop-i : goal.invariant-loop-i
invariant-loop-i l = AreToldSoFar (IsFindingOf l.full.index l.faults) l.fn.findings l.findings l.i
