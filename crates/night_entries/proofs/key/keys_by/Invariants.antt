use Rattle.std.proofs.Common.{◌≡◌, map, take, true}
use Rattle.std.specs.List.{filter_map, list_all}
use Rattle.csv.specs.Records.{fields_of}
use Rattle.night_entries.specs.Good.{is_row}
use Rattle.night_entries.specs.Keys.{row_key}
use Rattle.night_entries.specs.Named.{found_in}
use Rattle.night_entries.proofs.key.keys_by.Given as goal

abbrev pub invariant-loop-i : goal.invariant-loop-i
invariant-loop-i l = record {
  keys : l.found.items ≡ filter_map (row_key l.input (found_in l.receivers)) (map fields_of (take l.i l.table));
  good : list_all (is_row l.input (found_in l.receivers)) (map fields_of (take l.i l.table)) ≡ true;
}
