use Rattle.std.proofs.Common.{◌≡◌, ◌++◌, map, take}
use Rattle.csv_fields.specs.Csv.{fields_text, read}
use Rattle.track_read.specs.Export.{exported}
use Rattle.track_read.proofs.export.append_others.Given as goal

abbrev pub invariant-loop-i : goal.invariant-loop-i
invariant-loop-i l = l.out.items ≡ l.fn.out.items ++ fields_text (map (exported l.form) (read (take l.i l.fields)))
