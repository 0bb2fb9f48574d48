use Rattle.std.proofs.Common.{◌≡◌, ◌++◌, map, take}
use Rattle.csv.specs.Records.{fields_of}
use Rattle.csv_fields.specs.Csv.{table_text}
use Rattle.track_read.proofs.table.append_records.Given as goal

abbrev pub invariant-loop-i : goal.invariant-loop-i
invariant-loop-i l = l.out.items ≡ l.fn.out.items ++ table_text (map fields_of (take l.i l.rows))
