use Rattle.std.proofs.Common.{◌≡◌, ◌++◌, map, take}
use Rattle.csv_fields.specs.Csv.{table_text}
use Rattle.night_record.specs.Tables.{taken_row}
use Rattle.night_record.proofs.taken.append_taken_rows.Given as goal

abbrev pub invariant-loop-i : goal.invariant-loop-i
invariant-loop-i l = l.out.items ≡ l.fn.out.items ++ table_text (map taken_row (take l.i l.list))
