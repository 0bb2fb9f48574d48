-- The rows of nights whose document has a text (own), and what is printed of them.
use Rattle.std.specs.Prelude.{◌≡◌, ℕ, Bool, List, [], ◌∷◌, ◌++◌, if◌then◌else◌, is_some}
use Rattle.std.specs.List.{flat_map, list_all, list_any}
use Rattle.memchr.specs.Find.{first_of, matches}
use Rattle.night_search.specs.Lines.{document, none_line, row_line, unread_line}
use Rattle.track_read.specs.Night.{is_read, rows_of}
use Rattle.track_read.specs.declared.night.NightTable.{NightTable}

-- the text occurs in a row's document, at the first place that there is
abbrev pub has_text : (text : List ℕ) → (row : List (List ℕ)) → Bool
has_text text row = is_some (first_of (matches (document row) text 0))

-- the line on a row if it has the text
abbrev pub line_or_none : (text night : List ℕ) → (row : List (List ℕ)) → List ℕ
line_or_none text night row = if has_text text row then row_line night row else []

-- a line for each row that has the text, in the rows' order
abbrev pub found_lines : (text night : List ℕ) → List (List (List ℕ)) → List ℕ
found_lines text night rows = flat_map (line_or_none text night) rows

-- the lines of a night: those of its rows, or the one on its table
abbrev pub night_lines : (text : List ℕ) → NightTable → List ℕ
night_lines text table = found_lines text table.night (rows_of table.state) ++ unread_line table.night table.state

-- a row of the night has the text
abbrev pub has_row : (text : List ℕ) → NightTable → Bool
has_row text table = list_any (has_text text) (rows_of table.state)

-- these lines, or that no document has the text
abbrev pub lines_or_none : (text lines : List ℕ) → List ℕ
lines_or_none text [] = none_line text
lines_or_none text (b ∷ bs) = b ∷ bs

-- what is printed: the lines of each night; if there are none, that no document has the text
abbrev pub search_text : (text : List ℕ) → List NightTable → List ℕ
search_text text tables = lines_or_none text (flat_map (night_lines text) tables)

-- a row of some night has the text
abbrev pub is_found : (text : List ℕ) → List NightTable → Bool
is_found text tables = list_any (has_row text) tables

-- each table was read
abbrev pub are_read : List NightTable → Bool
are_read tables = list_all (λ (table : NightTable). is_read table.state) tables

-- what a search has found so far: its lines, whether a row was found, and whether each table was read
pub record SearchValue : Type 0 where
  pub lines : List ℕ
  pub found : Bool
  pub all_read : Bool

-- a search that has come through these tables
pub record IsSearch (text : List ℕ) (tables : List NightTable) (search : SearchValue) : Type 0 where
  pub lines : search.lines ≡ flat_map (night_lines text) tables
  pub found : search.found ≡ is_found text tables
  pub read : search.all_read ≡ are_read tables
