-- What is printed of the rows of nights (own): a line for each row, and one for each table that wasn't read. A byte that controls a
-- terminal is escaped, so that each line is one line; a byte 0 isn't shown.
use Rattle.std.specs.Prelude.{ℕ, List, [], ◌∷◌, ◌++◌, codes, map, if◌then◌else◌}
use Rattle.std.specs.List.{flat_map}
use Rattle.std.specs.Str.{bytes_eq}
use Rattle.csv_fields.specs.declared.columns.TheConstants as column
use Rattle.file_names.specs.Shown.{shown}
use Rattle.track_read.specs.Table.{field}
use Rattle.track_read.specs.declared.night.NightTable.{NightTable}
use Rattle.track_read.specs.declared.night.TableState.{TableState}
use Rattle.track_read.specs.declared.night.TableState.TheVariants as state
use denote.Ref.{Bor}

-- parts of a text, one after another
abbrev pub joined : List (List ℕ) → List ℕ
joined parts = flat_map (λ part. part) parts

-- private: what lent parts read
abbrev pub read : List (Bor (List ℕ)) → List (List ℕ)
read parts = map (λ part. part.now) parts

-- words as one line
abbrev pub line_of : (words : List ℕ) → List ℕ
line_of words = shown words ++ codes "\n"

-- the fields of a row that lines show
abbrev pub sender : (row : List (List ℕ)) → List ℕ
sender row = field row column.SENDER

abbrev pub st01 : (row : List (List ℕ)) → List ℕ
st01 row = field row column.ST01

abbrev pub document : (row : List (List ℕ)) → List ℕ
document row = field row column.DOCUMENT

abbrev pub verdict : (row : List (List ℕ)) → List ℕ
verdict row = field row column.VERDICT

abbrev pub outcome : (row : List (List ℕ)) → List ℕ
outcome row = field row column.OUTCOME

abbrev pub receiver : (row : List (List ℕ)) → List ℕ
receiver row = field row column.RECEIVER

abbrev pub receiver_isa13 : (row : List (List ℕ)) → List ℕ
receiver_isa13 row = field row column.RECEIVER_ISA13

-- a set that was delivered: to whom, in which interchange of which file
abbrev pub delivered_words : (row : List (List ℕ)) → List ℕ
delivered_words row =
    joined (codes "delivered to " ∷ receiver row ∷ codes ", ISA13 " ∷ receiver_isa13 row
    ∷ codes ", out/" ∷ receiver row ∷ codes ".box" ∷ [])

-- a set that was rejected: IK501
abbrev pub rejected_words : (row : List (List ℕ)) → List ℕ
rejected_words row = joined (codes "rejected, verdict " ∷ verdict row ∷ [])

-- any other outcome in the row's words, with its receiver if it has one
abbrev pub other_words : (outcome receiver : List ℕ) → List ℕ
other_words outcome [] = outcome
other_words outcome (b ∷ bs) = joined (outcome ∷ codes " for " ∷ (b ∷ bs) ∷ [])

-- the outcome of a row
abbrev pub outcome_words : (row : List (List ℕ)) → List ℕ
outcome_words row =
    if bytes_eq (outcome row) (codes "delivered") then delivered_words row
    else if bytes_eq (outcome row) (codes "rejected") then rejected_words row
    else other_words (outcome row) (receiver row)

-- which document of which sender it is
abbrev pub set_words : (night : List ℕ) → (row : List (List ℕ)) → List ℕ
set_words night row =
    joined (codes "night " ∷ night ∷ codes ": " ∷ st01 row ∷ codes " " ∷ document row ∷ codes " from " ∷ sender row ∷ codes " " ∷ [])

-- the line on a row of a night
abbrev pub row_line : (night : List ℕ) → (row : List (List ℕ)) → List ℕ
row_line night row = line_of (set_words night row ++ outcome_words row)

-- the line on a table that wasn't read; none on one that was
abbrev pub unread_line : (night : List ℕ) → TableState → List ℕ
unread_line night (state.Rows rows) = []
unread_line night state.Unread = line_of (joined (codes "night " ∷ night ∷ codes ": track.csv can't be read" ∷ []))
unread_line night state.Wrong = line_of (joined (codes "night " ∷ night ∷ codes ": track.csv isn't what the night had" ∷ []))

-- the lines on tables that weren't read
abbrev pub unread_lines : List NightTable → List ℕ
unread_lines tables = flat_map (λ (table : NightTable). unread_line table.night table.state) tables

-- what is printed if nothing else is
abbrev pub none_line : (text : List ℕ) → List ℕ
none_line text = line_of (joined (codes "no document has " ∷ text ∷ []))
