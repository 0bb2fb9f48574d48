use Rattle.std.proofs.Common.{◌≡◌, map, take, true}
use Rattle.std.specs.List.{list_all}
use Rattle.csv_fields.specs.Csv.{read}
use Rattle.night_record.specs.Record.{file_line, is_file}
use Rattle.night_record.proofs.files.each_file.Given as goal

abbrev pub invariant-loop-i : goal.invariant-loop-i
invariant-loop-i l = record {
  so_far : read (take l.i l.lines) ≡ map file_line l.files.items;
  each : list_all is_file l.files.items ≡ true;
}
