use Rattle.std.proofs.Common.{◌≡◌, take, true}
use Rattle.std.specs.List.{list_all}
use Rattle.csv_fields.specs.Csv.{read}
use Rattle.night_record.specs.Reading.{is_filled}
use Rattle.night_record.proofs.parts.blank_in.Given as goal

abbrev pub invariant-loop-i : goal.invariant-loop-i
invariant-loop-i l = list_all is_filled (read (take l.i l.lines)) ≡ true
