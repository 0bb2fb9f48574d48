use Rattle.std.proofs.Common.{◌≡◌, ◌++◌, List, length, take}
use Rattle.answered_sets.specs.Judged.{PlacedValue}
use Rattle.track_table.specs.Walking.{AreAmid, AreBehind, outcome_texts}
use Rattle.track_table.proofs.rows.append_targets.Given as goal

abbrev pub invariant-loop-t : goal.invariant-loop-t
invariant-loop-t l = record {
  count : length l.cursors ≡ length l.initial.cursors;
  rows : (before : List PlacedValue) → AreBehind l.by before l.initial.cursors
      → (l.out.items ≡ l.initial.out.items ++ outcome_texts l.by before l.line l.placed (take l.t l.route))
      × AreAmid l.by before l.placed (take l.t l.route) l.cursors;
}
