use Rattle.std.proofs.Common.{◌≡◌, map, take, true}
use Rattle.std.specs.List.{list_all}
use Rattle.csv.specs.Records.{fields_of}
use Rattle.night_record.specs.Tables.{address_row, can_count}
use Rattle.night_record.proofs.addresses.each_address.Given as goal

abbrev pub invariant-loop-i : goal.invariant-loop-i
invariant-loop-i l = record {
  so_far : map fields_of (take l.i l.rows) ≡ map address_row l.list.items;
  each : list_all can_count l.list.items ≡ true;
}
