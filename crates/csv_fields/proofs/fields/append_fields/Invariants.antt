use Rattle.std.proofs.Common.{◌≡◌, ◌++◌, take}
use Rattle.csv_fields.specs.Csv.{fields_text, read}
use Rattle.csv_fields.proofs.fields.append_fields.Given as goal

abbrev pub invariant-loop-field : goal.invariant-loop-field
invariant-loop-field l = l.out.items ≡ l.initial.out.items ++ fields_text (read (take l.field-index l.fields))
