use Rattle.std.proofs.Common.{◌≡◌, ◌+◌, ◌++◌, drop, map}
use Rattle.toml.specs.View.{items_view}
use Rattle.key_errors.specs.Spots.{row_spots}
use Rattle.key_errors.specs.Seen.{seen}
use Rattle.key_errors.proofs.spots.push_rows_in.Given as goal

abbrev pub invariant-loop-i : goal.invariant-loop-i
invariant-loop-i l =
    map seen l.spots.items ++ row_spots l.kind (l.i + 1) (items_view (drop l.i l.rows))
    ≡ map seen l.initial.spots.items ++ row_spots l.kind 1 (items_view l.rows)
