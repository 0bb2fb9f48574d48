use Rattle.std.proofs.Common.{◌≡◌, ◌≤◌, ◌+◌, ◌++◌, length, take}
use Rattle.std.specs.List.{flat_map, count_by}
use Rattle.mailbox.specs.Deliveries.{is_held}
use Rattle.night_report.specs.Report.{outcome_line}
use Rattle.night_report.proofs.held.append_held_lines.Given as goal

abbrev pub invariant-loop-outcome : goal.invariant-loop-outcome
invariant-loop-outcome l =
    record {
      text : l.out.items ≡ l.initial.out.items ++ flat_map (outcome_line l.setup l.ordinal) (take l.outcome-index l.outcomes);
      room : length l.initial.out.items + l.held ≤ length l.out.items;
      held : l.held ≡ count_by is_held (take l.outcome-index l.outcomes);
    }
