use Rattle.std.proofs.Common.{◌≡◌, Some, length, take}
use Rattle.std.specs.Prelude.{slice_get}
use Rattle.env_index.specs.Words.{GroupEntry}
use Rattle.answered_sets.specs.Judged.{sets_from, standing_at}
use Rattle.track_table.specs.Walking.{HasRows, sets_text}
use Rattle.track_table.proofs.rows.append_sets.Given as goal

abbrev pub invariant-loop-s : goal.invariant-loop-s
invariant-loop-s l = record {
  count : length l.cursors ≡ length l.initial.cursors;
  rows : (g : GroupEntry) → slice_get l.judged.interchange.content.groups l.k ≡ Some g
      → HasRows l.by
      (λ before. sets_text l.by l.head l.notes before (sets_from l.judged g (standing_at l.judged.standings l.k) 0 (take l.s g.sets)))
      (sets_from l.judged g (standing_at l.judged.standings l.k) 0 (take l.s g.sets))
      l.initial.out.items l.out.items l.initial.cursors l.cursors;
}
