use Rattle.std.proofs.Common.{◌≡◌, ◌++◌, ◌+◌, drop, length}
use Rattle.answered_sets.specs.Judged.{all_sets}
use Rattle.mailbox.specs.Deliveries.{outcomes_of}
use Rattle.night_report.specs.Adding.{added, none, interchange_totals}
use Rattle.night_report.specs.Report.{all_lines}
use Rattle.night_report.specs.Room.{HasRoom, IsOfInterchanges}
use Rattle.night_report.proofs.report.append_all.Given as goal

abbrev pub invariant-loop-i : goal.invariant-loop-i
invariant-loop-i l =
    record {
      text : l.out.items ++ all_lines l.setup l.base (l.before + l.i + 1) (drop l.i l.interchanges)
          ≡ l.initial.out.items ++ all_lines l.setup l.base (l.before + 1) l.interchanges;
      room : HasRoom l.totals (length l.initial.out.items) (length l.out.items);
      of_those : IsOfInterchanges l.totals l.i;
      totals : added (interchange_totals l.setup) l.totals (drop l.i l.interchanges)
          ≡ added (interchange_totals l.setup) none l.interchanges;
      left : l.left ≡ outcomes_of l.setup (all_sets (drop l.i l.interchanges));
    }
