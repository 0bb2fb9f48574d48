-- The table of a night as it was read (own): its rows, or why it has none.
use Rattle.std.specs.Prelude.{⊤, ℕ, Bool, true, false, List, [], Option, Some, None, map}
use Rattle.csv.specs.Records.{fields_of}
use Rattle.track_read.specs.Table.{IsTable}
use Rattle.track_read.specs.declared.night.TableState.{TableState}
use Rattle.track_read.specs.declared.night.TableState.TheVariants as state

-- what the bytes of its file are: none if the file can't be read; wrong if they aren't a table
abbrev pub IsStateOf : Option (List ℕ) → TableState → Type 0
IsStateOf None (state.Rows rows) = ⊥
IsStateOf None state.Unread = ⊤
IsStateOf None state.Wrong = ⊥
IsStateOf (Some bytes) (state.Rows rows) = IsTable bytes (map fields_of rows.items)
IsStateOf (Some bytes) state.Unread = ⊥
IsStateOf (Some bytes) state.Wrong = (rows : List (List (List ℕ))) → IsTable bytes rows → ⊥

-- its rows; none if it wasn't read
abbrev pub rows_of : TableState → List (List (List ℕ))
rows_of (state.Rows rows) = map fields_of rows.items
rows_of state.Unread = []
rows_of state.Wrong = []

abbrev pub is_read : TableState → Bool
is_read (state.Rows rows) = true
is_read state.Unread = false
is_read state.Wrong = false
