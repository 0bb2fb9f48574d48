-- What is exported of the tables of nights (RFC 4180; own): the rows of each night, with its name in a first column.
use Rattle.std.specs.Prelude.{ℕ, ◌==◌, ◌||◌, Bool, false, List, [], ◌∷◌, ◌++◌, codes, map, if◌then◌else◌}
use Rattle.std.specs.List.{flat_map}
use Rattle.csv_fields.specs.Csv.{record_text}
use Rattle.csv_fields.specs.Columns.{column_line}
use Rattle.track_read.specs.declared.export.Form.{Form}
use Rattle.track_read.specs.declared.export.Form.TheVariants as form

-- a spreadsheet takes a field for a formula if it begins with = + - or @
abbrev pub is_formula : (field : List ℕ) → Bool
is_formula [] = false
is_formula (b ∷ bs) = b == 61 || (b == 43 || (b == 45 || b == 64))

-- a field as it is exported: for a spreadsheet a formula has an apostrophe before it
abbrev pub exported : Form → (field : List ℕ) → List ℕ
exported form.Plain field = field
exported form.Sheet field = if is_formula field then 39 ∷ field else field

abbrev pub export_columns : List ℕ
export_columns = codes "night," ++ column_line

abbrev pub export_row : Form → (night : List ℕ) → (row : List (List ℕ)) → List ℕ
export_row form night row = record_text (map (exported form) (night ∷ row))

abbrev pub export_rows : Form → (night : List ℕ) → List (List (List ℕ)) → List ℕ
export_rows form night rows = flat_map (export_row form night) rows
