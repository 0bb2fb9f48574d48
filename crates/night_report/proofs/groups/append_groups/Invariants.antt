use Rattle.std.proofs.Common.{◌≡◌, ◌++◌, drop, length}
use Rattle.std.specs.List.{flat_map}
use Rattle.answered_sets.specs.Judged.{sets_of_groups_from}
use Rattle.mailbox.specs.Deliveries.{outcomes_of}
use Rattle.night_report.specs.Adding.{added, group_totals}
use Rattle.night_report.specs.Report.{group_lines, shown_from}
use Rattle.night_report.specs.Room.{HasRoom, IsOfInterchanges}
use Rattle.night_report.proofs.groups.append_groups.Given as goal

abbrev pub invariant-loop-n : goal.invariant-loop-n
invariant-loop-n l =
    record {
      text : l.out.items
          ++ flat_map (group_lines l.setup) (shown_from l.interchange l.n (drop l.n l.interchange.interchange.content.groups))
          ≡ l.initial.out.items ++ flat_map (group_lines l.setup) (shown_from l.interchange 0 l.interchange.interchange.content.groups);
      room : HasRoom l.totals (length l.initial.out.items) (length l.out.items);
      of_one : IsOfInterchanges l.totals 1;
      totals : added (group_totals l.setup) l.totals (shown_from l.interchange l.n (drop l.n l.interchange.interchange.content.groups))
          ≡ added (group_totals l.setup) l.initial.totals (shown_from l.interchange 0 l.interchange.interchange.content.groups);
      left : l.left ≡ outcomes_of l.setup (sets_of_groups_from l.interchange l.n (drop l.n l.interchange.interchange.content.groups));
    }
