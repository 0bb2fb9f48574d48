use Rattle.std.proofs.Common.{◌≡◌, take}
use Rattle.csv.specs.Records.{fields_of}
use Rattle.csv_fields.specs.Csv.{read}
use Rattle.track_read.proofs.written.lent_fields.Given as goal

abbrev pub invariant-loop-i : goal.invariant-loop-i
invariant-loop-i l = read l.fields.items ≡ take l.i (fields_of l.row)
