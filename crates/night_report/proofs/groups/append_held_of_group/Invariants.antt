use Rattle.std.proofs.Common.{◌≡◌, ◌≤◌, ◌++◌, ◌+◌, drop, length}
use Rattle.night_report.proofs.Outcomes.{lines_from, held_from}
use Rattle.night_report.proofs.groups.append_held_of_group.Given as goal

abbrev pub invariant-loop-i : goal.invariant-loop-i
invariant-loop-i l =
    record {
      text : l.out.items ++ lines_from l.setup (l.i + 1) (drop l.i l.outcomes) ≡ l.initial.out.items ++ lines_from l.setup 1 l.outcomes;
      room : length l.initial.out.items + l.held ≤ length l.out.items;
      held : l.held + held_from (drop l.i l.outcomes) ≡ held_from l.outcomes;
    }
