use Rattle.std.proofs.Common.{◌≡◌, ◌∷◌}
use Rattle.night_report.specs.AreClean.{are_clean}
use Rattle.night_report.specs.Clean.{all_but_last, is_clean}
use Rattle.night_report.proofs.clean.is_clean.Given as goal

abbrev pub invariant-loop-next : goal.invariant-loop-next
invariant-loop-next l = are_clean l.before (all_but_last (l.line ∷ l.next-iterator)) ≡ is_clean l.report
