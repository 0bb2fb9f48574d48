use Rattle.std.proofs.Common.{◌≡◌, ◌++◌, take}
use Rattle.csv_fields.specs.Csv.{quoted_bytes}
use Rattle.csv_fields.proofs.fields.append_quoted_bytes.Given as goal

abbrev pub invariant-loop-byte : goal.invariant-loop-byte
invariant-loop-byte l = l.out.items ≡ l.initial.out.items ++ quoted_bytes (take l.byte-index l.field)
