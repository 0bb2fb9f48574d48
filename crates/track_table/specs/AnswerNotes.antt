-- 999 guide (005010X231), IK5 and AK9: what is kept of the answers to groups and sets once they are given (own).
use Rattle.std.specs.Prelude.{ℕ, List, map, length, Option, Some, None}
use Rattle.hub_kinds.specs.declared.answers.SetAnswer.{SetAnswer}
use Rattle.set_answers.specs.declared.answered.AnsweredGroup.{AnsweredGroup}
use Rattle.track_table.specs.declared.notes.GroupNotes.{GroupNotes}
use Rattle.track_table.specs.declared.notes.SetNotes.{SetNotes}
use Rattle.track_table.specs.Notes.{no_notes}

-- its codes, and how many faults are reported of it
abbrev pub notes_of_set : SetAnswer → SetNotes
notes_of_set a = record { codes = a.codes; faults = length a.faults }

abbrev pub notes_of : AnsweredGroup → GroupNotes
notes_of x = record { codes = x.answer.codes; sets = map notes_of_set x.sets }

abbrev pub notes_by : Option AnsweredGroup → GroupNotes
notes_by None = no_notes
notes_by (Some x) = notes_of x
