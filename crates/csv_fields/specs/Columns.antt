-- own: the columns of the table of a night's sets, by their names.
use Rattle.std.specs.Prelude.{ℕ, List, [], ◌∷◌, codes}
use Rattle.csv_fields.specs.Csv.{record_text}

-- the names of the columns, in their order
abbrev pub column_names : List (List ℕ)
column_names =
    codes "interchange" ∷ codes "offset" ∷ codes "sender" ∷ codes "isa13" ∷ codes "fault" ∷ codes "ta1" ∷ codes "gs01" ∷ codes "gs06"
    ∷ codes "gs02" ∷ codes "gs03" ∷ codes "group_verdict" ∷ codes "group_codes" ∷ codes "st01" ∷ codes "st02" ∷ codes "document"
    ∷ codes "verdict" ∷ codes "codes" ∷ codes "faults" ∷ codes "outcome" ∷ codes "byte" ∷ codes "segment" ∷ codes "receiver"
    ∷ codes "receiver_isa13" ∷ codes "receiver_gs06" ∷ codes "receiver_st02" ∷ []

-- the first line of a table: the names of its columns
abbrev pub column_line : List ℕ
column_line = record_text column_names
