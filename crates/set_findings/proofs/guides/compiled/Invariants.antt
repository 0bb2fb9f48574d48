use Rattle.std.proofs.Common.{◌≡◌, take}
use Rattle.set_findings.proofs.guides.compiled.Given as goal

abbrev pub invariant-loop-guide : goal.invariant-loop-guide
invariant-loop-guide l = l.all.items ≡ take l.guide-index l.guides
