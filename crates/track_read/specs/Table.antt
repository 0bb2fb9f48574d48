-- The table of a night's sets, as `nighthub_track` writes it (RFC 4180, comma-separated values; which columns there are, is own): the names
-- of the columns, and then a record for each set and receiver.
use Rattle.std.specs.Prelude.{◌≡◌, ℕ, ◌==◌, Bool, true, List, [], ◌++◌, length}
use Rattle.std.specs.List.{list_all}
use Rattle.std.specs.Option.{unwrap_or}
use Rattle.csv.specs.Records.{field_at}
use Rattle.csv_fields.specs.Csv.{table_text}
use Rattle.csv_fields.specs.Columns.{column_line}
use Rattle.csv_fields.specs.declared.columns.TheConstants.{COLUMNS}

-- a row has all fields
abbrev pub is_wide : (row : List (List ℕ)) → Bool
is_wide row = length row == COLUMNS

-- the text is the records of these rows, and nothing else
pub record HasRows (text : List ℕ) (rows : List (List (List ℕ))) : Type 0 where
  pub records : text ≡ table_text rows
  pub width : list_all is_wide rows ≡ true

-- a table with these rows: the line of columns, and the records of the rows
pub record IsTable (bytes : List ℕ) (rows : List (List (List ℕ))) : Type 0 where
  pub text : bytes ≡ column_line ++ table_text rows
  pub width : list_all is_wide rows ≡ true

-- field n of a row, counted from 0; empty if the row is shorter
abbrev pub field : (row : List (List ℕ)) → ℕ → List ℕ
field row n = unwrap_or (field_at row n) []
