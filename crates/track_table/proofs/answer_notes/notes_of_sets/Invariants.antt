use Rattle.std.proofs.Common.{◌≡◌, map}
use Rattle.track_table.specs.AnswerNotes.{notes_of_set}
use Rattle.track_table.proofs.answer_notes.notes_of_sets.Given as goal

abbrev pub invariant-loop-set : goal.invariant-loop-set
invariant-loop-set l = l.notes.items ≡ map notes_of_set l.yielded
