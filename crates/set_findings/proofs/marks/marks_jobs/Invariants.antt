use Rattle.std.specs.List.{All}
use Rattle.set_findings.specs.Pieces.{IsMarksOf}
use Rattle.set_findings.proofs.marks.marks_jobs.Given as goal

abbrev pub invariant-loop-i : goal.invariant-loop-i
invariant-loop-i l = All (IsMarksOf l.text) l.jobs.items
