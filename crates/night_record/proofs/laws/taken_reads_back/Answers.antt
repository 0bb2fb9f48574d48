use Rattle.std.proofs.Common.{map}
use Rattle.std.proofs.lemmas.List.{append_cancel_left}
use Rattle.csv_fields.specs.Csv.{table_text}
use Rattle.night_record.specs.Tables.{taken_columns, taken_row}
use Rattle.night_record.proofs.Tabled.{table_once, taken_once, taken_wide}
use Rattle.night_record.proofs.laws.taken_reads_back.Goals as goal

pub returns : goal.returns
returns c list other same =
    taken_once list other
    (table_once (map taken_row list) (map taken_row other) (taken_wide list) (taken_wide other)
    (append_cancel_left taken_columns (table_text (map taken_row list)) (table_text (map taken_row other)) same))
