use Rattle.std.proofs.Common.{◌≡◌, ◌++◌, map, take}
use Rattle.csv_fields.specs.Csv.{table_text}
use Rattle.night_record.specs.Tables.{address_row}
use Rattle.night_record.proofs.addresses.append_address_rows.Given as goal

abbrev pub invariant-loop-i : goal.invariant-loop-i
invariant-loop-i l = l.out.items ≡ l.fn.out.items ++ table_text (map address_row (take l.i l.list))
