-- A row of the table of a night (own): the fields that a page shows, beside those that a search shows.
use Rattle.std.specs.Prelude.{ℕ, Bool, List, [], ◌∷◌, codes, if◌then◌else◌}
use Rattle.std.specs.Str.{bytes_eq}
use Rattle.csv_fields.specs.declared.columns.TheConstants as column
use Rattle.night_search.specs.Lines.{document, joined, outcome, outcome_words, sender, st01}
use Rattle.track_read.specs.Table.{field}

abbrev pub Row : Type 0
Row = List (List ℕ)

abbrev pub interchange : Row → List ℕ
interchange row = field row column.INTERCHANGE

abbrev pub offset : Row → List ℕ
offset row = field row column.OFFSET

abbrev pub isa13 : Row → List ℕ
isa13 row = field row column.ISA13

abbrev pub fault : Row → List ℕ
fault row = field row column.FAULT

abbrev pub gs01 : Row → List ℕ
gs01 row = field row column.GS01

abbrev pub gs06 : Row → List ℕ
gs06 row = field row column.GS06

abbrev pub gs03 : Row → List ℕ
gs03 row = field row column.GS03

abbrev pub st02 : Row → List ℕ
st02 row = field row column.ST02

abbrev pub byte : Row → List ℕ
byte row = field row column.BYTE

abbrev pub has_outcome : (words : List ℕ) → Row → Bool
has_outcome words row = bytes_eq (outcome row) words

abbrev pub is_delivered : Row → Bool
is_delivered row = has_outcome (codes "delivered") row

abbrev pub is_refused : Row → Bool
is_refused row = has_outcome (codes "refused") row

-- GS01 and GS06
abbrev pub group_words : Row → List ℕ
group_words row = joined (gs01 row ∷ codes " " ∷ gs06 row ∷ [])

-- the outcome of a set, or that its interchange is refused, and why
abbrev pub end_words : Row → List ℕ
end_words row =
    if is_refused row then joined (codes "its interchange is refused: " ∷ fault row ∷ []) else outcome_words row

-- which set of whom
abbrev pub set_words : Row → List ℕ
set_words row =
    joined (st01 row ∷ codes " " ∷ document row ∷ codes " from " ∷ sender row ∷ codes ", ISA13 " ∷ isa13 row
    ∷ codes ", GS06 " ∷ gs06 row ∷ codes ", ST02 " ∷ st02 row ∷ [])

-- which interchange, or which set, a row is about
abbrev pub subject_words : Row → List ℕ
subject_words row =
    if is_refused row then joined (codes "interchange " ∷ interchange row ∷ codes " at byte " ∷ offset row ∷ []) else set_words row
