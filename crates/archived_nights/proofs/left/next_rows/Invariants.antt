use Rattle.std.proofs.Common.{◌≡◌, map, take}
use Rattle.night_record.specs.Tables.{address_of}
use Rattle.archived_nights.specs.Archive.{address_in, left_by, next_in}
use Rattle.archived_nights.proofs.left.next_rows.Given as goal

abbrev pub invariant-loop-i : goal.invariant-loop-i
invariant-loop-i l = record {
  addresses : map address_of l.list.items ≡ map address_in (take l.i l.rows);
  left : map next_in l.list.items ≡ map left_by (take l.i l.rows);
}
