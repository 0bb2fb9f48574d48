-- Whether the rows of a night's table give the totals of its report (own). A set has a row for each receiver of its route, or one row if it
-- has no receiver.
use Rattle.std.specs.Prelude.{ℕ, ◌==◌, ◌&&◌, ◌||◌, not, nat_lt, Bool, List, [], ◌∷◌, ◌++◌, codes, decimal, if◌then◌else◌, length, slice_get}
use Rattle.std.specs.List.{count_by, list_all, slice_split}
use Rattle.std.specs.Option.{unwrap_or}
use Rattle.std.specs.Str.{bytes_eq}
use Rattle.night_search.specs.Lines.{joined, receiver}
use Rattle.night_page.specs.Page.{is_held, is_rejected}
use Rattle.night_page.specs.Rows.{Row, gs06, has_outcome, is_refused, offset, st02}

abbrev pub has_receiver : Row → Bool
has_receiver row = not (length (receiver row) == 0)

-- two rows name the same interchange, group and set
abbrev pub name_one_set : Row → Row → Bool
name_one_set row other =
    bytes_eq (offset row) (offset other) && (bytes_eq (gs06 row) (gs06 other) && bytes_eq (st02 row) (st02 other))

abbrev pub have_two_receivers : Row → Row → Bool
have_two_receivers row other = has_receiver row && (has_receiver other && not (bytes_eq (receiver row) (receiver other)))

-- two rows of one set, for two receivers of its route
abbrev pub are_of_one_set : Row → Row → Bool
are_of_one_set row other = name_one_set row other && have_two_receivers row other

-- a route has at most 16 receivers
abbrev pub has_room : (set : List Row) → Bool
has_room set = nat_lt 0 (length set) && nat_lt (length set) 16

-- a row after the rows of a set is of this set, too, if it is with each of them
abbrev pub is_further : (set : List Row) → Row → Bool
is_further set row = has_room set && list_all (λ other. are_of_one_set other row) set

-- the first row of each set, of rows after those of a set
abbrev pub firsts_after : (set : List Row) → List Row → List Row
firsts_after set [] = []
firsts_after set (row ∷ rows) =
    if is_further set row then firsts_after (set ++ row ∷ []) rows else row ∷ firsts_after (row ∷ []) rows

abbrev pub firsts : List Row → List Row
firsts rows = firsts_after [] rows

-- a set that a report counts: not one of a refused interchange, and not one of acknowledgments, which is only listed
abbrev pub is_counted : Row → Bool
is_counted row = not (is_refused row || has_outcome (codes "listed") row)

abbrev pub is_accepted : Row → Bool
is_accepted row = is_counted row && not (is_rejected row)

-- the last line of a report with the totals of these rows, and with words on what rows don't say: how many interchanges and groups there
-- are, of which one without a set has no row, and how many bytes are outside
abbrev pub total_text : (interchanges groups outside : List ℕ) → List Row → List ℕ
total_text interchanges groups outside rows =
    joined (codes "total interchanges " ∷ interchanges ∷ codes " refused " ∷ decimal (count_by is_refused rows)
    ∷ codes " groups " ∷ groups ∷ codes " sets " ∷ decimal (count_by is_counted (firsts rows))
    ∷ codes " accepted " ∷ decimal (count_by is_accepted (firsts rows))
    ∷ codes " held " ∷ decimal (count_by is_held rows) ∷ codes " outside " ∷ outside ∷ [])

abbrev pub words_in : (line : List ℕ) → List (List ℕ)
words_in line = slice_split (λ b. b == 32) line

-- word n of a line, counted from 0; empty if it has fewer
abbrev pub word : (words : List (List ℕ)) → ℕ → List ℕ
word words n = unwrap_or (slice_get words n) []

-- the line is the one with the totals of these rows, whatever it says of interchanges, groups and bytes outside
abbrev pub gives_totals : (line : List ℕ) → List Row → Bool
gives_totals line rows =
    let words = words_in line in bytes_eq line (total_text (word words 2) (word words 6) (word words 14) rows)
