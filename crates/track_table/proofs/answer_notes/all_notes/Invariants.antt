use Rattle.std.proofs.Common.{◌≡◌, map}
use Rattle.track_table.specs.AnswerNotes.{notes_by}
use Rattle.track_table.proofs.answer_notes.all_notes.Given as goal

abbrev pub invariant-loop-group : goal.invariant-loop-group
invariant-loop-group l = l.notes.items ≡ map notes_by l.yielded
