use Rattle.std.proofs.Common.{◌≡◌, ◌++◌, [], take}
use Rattle.answered_sets.specs.Judged.{all_sets}
use Rattle.csv_fields.specs.Csv.{table_text}
use Rattle.track_table.specs.Rows.{rows_from}
use Rattle.track_table.specs.Walking.{AreBehind}
use Rattle.track_table.proofs.rows.append_all.Given as goal

abbrev pub invariant-loop-i : goal.invariant-loop-i
invariant-loop-i l = record {
  behind : AreBehind l.by (all_sets (take l.i l.interchanges)) l.cursors;
  rows : l.out.items
      ≡ l.initial.out.items ++ table_text (rows_from l.by 1 [] (take l.i l.interchanges) (take l.i l.by.night));
}
