-- The rows of a night's table by the sets that they are about (own): a set has a row for each receiver of its route, or one.
use Rattle.std.specs.Prelude.{ℕ, ◌==◌, ◌&&◌, not, Bool, false, List, [], ◌∷◌, Option, Some, None}
use Rattle.std.specs.Prelude.{codes, decimal, if◌then◌else◌, length, take, drop}
use Rattle.std.specs.List.{list_any, prefix_len}
use Rattle.std.specs.Str.{bytes_eq}
use Rattle.csv_fields.specs.declared.columns.TheConstants as column
use Rattle.track_read.specs.Table.{field}
use Rattle.sets_again.specs.declared.wanted.Wanted.{Wanted}
use Rattle.sets_again.specs.declared.wanted.Wanted.TheVariants as wanted

abbrev pub Row : Type 0
Row = List (List ℕ)

abbrev pub offset : Row → List ℕ
offset row = field row column.OFFSET

abbrev pub gs06 : Row → List ℕ
gs06 row = field row column.GS06

abbrev pub st02 : Row → List ℕ
st02 row = field row column.ST02

abbrev pub outcome : Row → List ℕ
outcome row = field row column.OUTCOME

abbrev pub has_receiver : Row → Bool
has_receiver row = not (length (field row column.RECEIVER) == 0)

-- it is about the interchange that begins at this offset of the input
abbrev pub is_at : (start : ℕ) → Row → Bool
is_at start row = bytes_eq (offset row) (decimal start)

-- how many rows are about this interchange, from the first one on; and those, and the rows after them
abbrev pub count_at : (start : ℕ) → List Row → ℕ
count_at start rows = prefix_len (is_at start) rows

abbrev pub rows_at : (start : ℕ) → List Row → List Row
rows_at start rows = take (count_at start rows) rows

abbrev pub rows_after : (start : ℕ) → List Row → List Row
rows_after start rows = drop (count_at start rows) rows

-- of an interchange that is refused
abbrev pub is_refused : Row → Bool
is_refused row = bytes_eq (outcome row) (codes "refused")

abbrev pub are_refused : List Row → Bool
are_refused rows = list_any is_refused rows

-- about the set of the row before it, and another receiver: no two sets of a group with the same ST02 are both delivered or held
abbrev pub is_further : (last : Option Row) → Row → Bool
is_further None row = false
is_further (Some last) row =
    bytes_eq (gs06 last) (gs06 row) && (bytes_eq (st02 last) (st02 row) && (has_receiver last && has_receiver row))

-- the first row of each set, of rows after another one
abbrev pub firsts_after : (last : Option Row) → List Row → List Row
firsts_after last [] = []
firsts_after last (row ∷ rows) =
    if is_further last row then firsts_after (Some row) rows else row ∷ firsts_after (Some row) rows

abbrev pub firsts : List Row → List Row
firsts rows = firsts_after None rows

-- the outcome of the sets that go in again
abbrev pub words_of : Wanted → List ℕ
words_of wanted.HeldForRoute = codes "held route"
words_of wanted.Rejected = codes "rejected"

abbrev pub is_wanted : Wanted → Row → Bool
is_wanted which row = bytes_eq (outcome row) (words_of which)
