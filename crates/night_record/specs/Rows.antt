-- Rows of five fields (RFC 4180; no public clause cites these).
use Rattle.std.specs.Prelude.{◌≡◌, ℕ, ◌==◌, Bool, true, List, [], ◌∷◌, length}
use Rattle.std.specs.List.{list_all}
use Rattle.std.specs.Option.{unwrap_or}
use Rattle.csv.specs.Records.{field_at}
use Rattle.csv_fields.specs.Csv.{table_text}

-- a row has all fields
abbrev pub is_wide : (row : List (List ℕ)) → Bool
is_wide row = length row == 5

-- the text is the records of these rows, and nothing else
pub record HasRows (text : List ℕ) (rows : List (List (List ℕ))) : Type 0 where
  pub records : text ≡ table_text rows
  pub width : list_all is_wide rows ≡ true

-- field n of a row, counted from 0; empty if the row is shorter
abbrev pub field : (row : List (List ℕ)) → ℕ → List ℕ
field row n = unwrap_or (field_at row n) []

-- its last three fields
abbrev pub last_three : (row : List (List ℕ)) → List (List ℕ)
last_three row = field row 2 ∷ field row 3 ∷ field row 4 ∷ []
