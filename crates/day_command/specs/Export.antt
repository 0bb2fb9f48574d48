-- What is exported of the tables of nights (own), and how far an export has come.
use Rattle.std.specs.Prelude.{◌≡◌, ℕ, List, ◌++◌}
use Rattle.std.specs.List.{flat_map}
use Rattle.night_search.specs.Lines.{unread_lines}
use Rattle.night_search.specs.Search.{are_read}
use Rattle.track_read.specs.Export.{export_columns, export_rows}
use Rattle.track_read.specs.Night.{rows_of}
use Rattle.track_read.specs.declared.export.Form.{Form}
use Rattle.track_read.specs.declared.night.NightTable.{NightTable}
use Rattle.day_command.specs.declared.export.Export.{Export}

-- the rows of a table that was read; none of another
abbrev pub table_rows : Form → NightTable → List ℕ
table_rows form table = export_rows form table.night (rows_of table.state)

-- what is printed on standard output
abbrev pub export_text : Form → List NightTable → List ℕ
export_text form tables = export_columns ++ flat_map (table_rows form) tables

-- private: an export that has come through these tables
pub record IsExport (form : Form) (tables : List NightTable) (export : Export) : Type 0 where
  pub text : export.text.items ≡ export_text form tables
  pub unread : export.unread.items ≡ unread_lines tables
  pub read : export.all_read ≡ are_read tables
