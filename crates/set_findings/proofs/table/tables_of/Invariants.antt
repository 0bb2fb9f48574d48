use Rattle.std.proofs.Common.{take}
use Rattle.std.specs.List.{AllZip}
use Rattle.set_findings.specs.Keys.{KeepsGuides}
use Rattle.set_findings.proofs.table.tables_of.Given as goal

abbrev pub invariant-loop-i : goal.invariant-loop-i
invariant-loop-i l = AllZip (KeepsGuides l.guides) (take l.i l.partners) l.tables.items
