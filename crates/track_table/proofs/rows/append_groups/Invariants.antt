use Rattle.std.proofs.Common.{◌≡◌, length, take}
use Rattle.answered_sets.specs.Judged.{sets_of_groups_from}
use Rattle.csv_fields.specs.Csv.{table_text}
use Rattle.track_table.specs.Rows.{groups_rows}
use Rattle.track_table.specs.Walking.{HasRows}
use Rattle.track_table.proofs.rows.append_groups.Given as goal

abbrev pub invariant-loop-k : goal.invariant-loop-k
invariant-loop-k l = record {
  count : length l.cursors ≡ length l.initial.cursors;
  rows : HasRows l.by
      (λ before. table_text (groups_rows l.by l.n before l.judged l.notes 0 (take l.k l.judged.interchange.content.groups)))
      (sets_of_groups_from l.judged 0 (take l.k l.judged.interchange.content.groups))
      l.initial.out.items l.out.items l.initial.cursors l.cursors;
}
