use Rattle.std.proofs.Common.{◌≡◌, ◌∷◌}
use Rattle.night_report.specs.Clean.{all_but_last, last_behind, last_of, lines_of}
use Rattle.night_command.proofs.outcome.last_line.Given as goal

abbrev pub invariant-loop-next : goal.invariant-loop-next
invariant-loop-next l = last_behind l.last (all_but_last (l.line ∷ l.next-iterator)) ≡ last_of (lines_of l.report)
