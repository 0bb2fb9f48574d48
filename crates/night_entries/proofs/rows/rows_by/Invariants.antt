use Rattle.std.proofs.Common.{◌≡◌, map, take}
use Rattle.night_entries.specs.Named.{found_in}
use Rattle.night_entries.specs.Rows.{row_by}
use Rattle.night_entries.proofs.rows.rows_by.Given as goal

abbrev pub invariant-loop-i : goal.invariant-loop-i
invariant-loop-i l = l.list.items ≡ map (row_by (found_in l.begun) (found_in l.left)) (take l.i l.partners)
