-- When a night's table is that of its input (own): its rows are those of the input's interchanges and sets, in their order.
use Rattle.std.specs.Prelude.{ℕ, ◌==◌, ◌&&◌, Bool, true, false, List, [], ◌∷◌, length, take, drop, if◌then◌else◌}
use Rattle.std.specs.Str.{bytes_eq}
use Rattle.x12_segs.specs.Words.{SegValue, element_of}
use Rattle.env_index.specs.Index.{IndexEntry}
use Rattle.env_index.specs.Interchange.{InterchangeEntry}
use Rattle.env_index.specs.Summary.{GroupEntry}
use Rattle.env_index.specs.declared.entry.SetEnvelope.{SetEnvelope}
use Rattle.sets_again.specs.Rows.{Row, are_refused, firsts, gs06, rows_after, rows_at, st02}

-- the row has GS06 of the set's group, and its ST02
abbrev pub is_row_of : (gs06_is : List ℕ) → SetEnvelope → Row → Bool
is_row_of gs06_is set row = bytes_eq (gs06 row) gs06_is && bytes_eq (st02 row) (element_of set.header 2)

-- a row for each set of a group
abbrev pub sets_fit : (gs06_is : List ℕ) → List SetEnvelope → List Row → Bool
sets_fit gs06_is [] [] = true
sets_fit gs06_is [] (row ∷ rows) = false
sets_fit gs06_is (set ∷ sets) [] = false
sets_fit gs06_is (set ∷ sets) (row ∷ rows) = is_row_of gs06_is set row && sets_fit gs06_is sets rows

-- a row for each set of each group
abbrev pub groups_fit : List GroupEntry → List Row → Bool
groups_fit [] rows = length rows == 0
groups_fit (g ∷ groups) rows =
    sets_fit (element_of g.header 6) g.sets (take (length g.sets) rows) && groups_fit groups (drop (length g.sets) rows)

-- the rows of an interchange: one if it is refused, else those of its sets
abbrev pub rows_fit : InterchangeEntry → List Row → Bool
rows_fit x rows = if are_refused rows then length rows == 1 else groups_fit x.content.groups (firsts rows)

-- the rows of interchanges, and no other
abbrev pub table_fits : List IndexEntry → List Row → Bool
table_fits [] rows = length rows == 0
table_fits (e ∷ entries) rows =
    rows_fit e.interchange (rows_at e.interchange.start rows) && table_fits entries (rows_after e.interchange.start rows)
