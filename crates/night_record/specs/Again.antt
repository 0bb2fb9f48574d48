-- The table of the sets that a night was asked for again (RFC 4180, comma-separated values; X12.5, ISA05 to ISA08 and ISA13; X12.6, GS06
-- and ST02; own).
use Rattle.std.specs.Prelude.{◌≡◌, ◌≢◌, ⊤, ℕ, List, [], ◌∷◌, ◌++◌, codes, map}
use Rattle.csv_fields.specs.Csv.{table_text}
use Rattle.night_record.specs.Rows.{field}
use Rattle.night_record.specs.Tables.{HasNoColumns}
use Rattle.night_record.specs.declared.again.AgainSet.{AgainSet}
use Rattle.night_record.specs.declared.fault.TableFault.{TableFault}
use Rattle.night_record.specs.declared.fault.TableFault.TheVariants as fault

-- the names of the columns
abbrev pub again_columns : List ℕ
again_columns = codes "isa05 to isa08,isa13,gs06,st02,receiver\r\n"

-- the row of a set
abbrev pub again_row : AgainSet → List (List ℕ)
again_row set = set.ends ∷ set.isa13 ∷ set.gs06 ∷ set.st02 ∷ set.receiver ∷ []

-- the names of the columns, and a row for each set; nothing if there is none
abbrev pub again_text : List AgainSet → List ℕ
again_text [] = []
again_text (set ∷ sets) = again_columns ++ table_text (map again_row (set ∷ sets))

-- the set of a row
abbrev pub again_in : (row : List (List ℕ)) → AgainSet
again_in row = record {
  ends = field row 0;
  isa13 = field row 1;
  gs06 = field row 2;
  st02 = field row 3;
  receiver = field row 4;
}

-- why a text isn't such a table: its first line isn't the names of the columns; the rest isn't rows of this table
abbrev pub IsAgainFault : (bytes : List ℕ) → TableFault → Type 0
IsAgainFault bytes fault.Memory = ⊤
IsAgainFault bytes fault.Columns = (bytes ≢ []) × HasNoColumns again_columns bytes
IsAgainFault bytes fault.Rows =
    ((rest : List ℕ) × (bytes ≡ again_columns ++ rest)) × ((list : List AgainSet) → bytes ≢ again_text list)
IsAgainFault bytes fault.Order = ⊥
