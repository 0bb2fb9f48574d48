use Rattle.std.proofs.Common.{◌≡◌, ◌∙◌, List, ℕ, ap, map, sym}
use Rattle.std.specs.List.{list_all}
use Rattle.csv.specs.Records.{fields_of}
use Rattle.csv.specs.declared.record.ByteRecord.{ByteRecord}
use Rattle.csv_fields.specs.Csv.{table_text}
use Rattle.track_read.specs.Table.{is_wide}
use Rattle.track_read.proofs.Reading.{read_back}
use Rattle.track_read.proofs.table.rows_of.Goals as goal

pub returns-else-branch-clause-none : goal.returns-else-branch-clause-none
returns-else-branch-clause-none c is rows has =
    let read : List (List (List ℕ)) = map fields_of c.in_ok-rows.rows.items in
    let same : read ≡ rows = read_back rows read c.args.text.now has.records has.width c.in_ok-rows.ensures in
    let lent : map fields_of c.as_slice.result.now ≡ rows = ap (λ (l : List ByteRecord). map fields_of l) c.as_slice.ensures.value ∙ same in
    let are = c.in_ok-are_rows_of.ensures.1 (
      ap (λ (l : List (List (List ℕ))). list_all is_wide l) lent ∙ has.width,
      has.records ∙ ap (λ (l : List (List (List ℕ))). table_text l) (sym lent),
    ) in
    absurd (cc)
