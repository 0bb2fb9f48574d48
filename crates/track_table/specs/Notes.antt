-- 999 guide (005010X231), AK9: of a group of acknowledgments nothing is kept (own).
use Rattle.std.specs.Prelude.{[]}
use Rattle.track_table.specs.declared.notes.GroupNotes.{GroupNotes}

abbrev pub no_notes : GroupNotes
no_notes = record { codes = []; sets = [] }
