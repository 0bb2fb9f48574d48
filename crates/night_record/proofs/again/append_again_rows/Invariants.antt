use Rattle.std.proofs.Common.{◌≡◌, ◌++◌, map, take}
use Rattle.csv_fields.specs.Csv.{table_text}
use Rattle.night_record.specs.Again.{again_row}
use Rattle.night_record.proofs.again.append_again_rows.Given as goal

abbrev pub invariant-loop-i : goal.invariant-loop-i
invariant-loop-i l = l.out.items ≡ l.fn.out.items ++ table_text (map again_row (take l.i l.list))
