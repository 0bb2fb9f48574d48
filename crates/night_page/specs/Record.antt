-- What a page says of a night's record (own): the record's sum, and what the clock of the host said.
use Rattle.std.specs.Prelude.{ℕ, List, [], ◌∷◌, ◌++◌, Option, Some, None, codes, length, slice_range, ◌==◌, if◌then◌else◌}
use Rattle.night_search.specs.Lines.{joined}
use Rattle.night_page.specs.Tags.{tagged}
use Rattle.night_page.specs.declared.record.RecordShown.{RecordShown}

-- date and time of day, of CCYYMMDDHHMM
abbrev pub moment_words : (moment : List ℕ) → List ℕ
moment_words m =
    if length m == 12
    then joined (slice_range m 0 4 ∷ codes "-" ∷ slice_range m 4 6 ∷ codes "-" ∷ slice_range m 6 8 ∷ codes " "
    ∷ slice_range m 8 10 ∷ codes ":" ∷ slice_range m 10 12 ∷ [])
    else m

-- the clock of the host; a file that is no record has none
abbrev pub clock_part : Option (List ℕ) → List ℕ
clock_part None = codes "; night.toml isn't a record that a hub writes"
clock_part (Some clock) = tagged (codes "; clock of the host ") (moment_words clock) []

abbrev pub shown_part : RecordShown → List ℕ
shown_part shown = tagged (codes "<footer>\n<p>Record ") shown.sum [] ++ (clock_part shown.clock ++ codes "</p>\n</footer>\n")

-- a night without a record has none
abbrev pub record_part : Option RecordShown → List ℕ
record_part None = []
record_part (Some shown) = shown_part shown
