use Rattle.std.proofs.Common.{◌≡◌, ◌++◌, map, take}
use Rattle.csv.specs.Records.{fields_of}
use Rattle.track_read.specs.Export.{export_rows}
use Rattle.track_read.proofs.export.append_rows.Given as goal

abbrev pub invariant-loop-i : goal.invariant-loop-i
invariant-loop-i l = l.out.items ≡ l.fn.out.items ++ export_rows l.form l.night (map fields_of (take l.i l.rows))
