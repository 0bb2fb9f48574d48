-- An input of the sets of a night that go in again (own): interchange by interchange, in the order of the night's input.
use Rattle.std.specs.Prelude.{◌≡◌, ◌<◌, ◌⊎◌, ℕ, ◌==◌, ◌&&◌, eqb, Bool, true, false, List, [], ◌∷◌, ◌++◌, drop, if◌then◌else◌, length, map}
use Rattle.std.specs.List.{list_all, starts_with}
use Rattle.hub_kinds.specs.declared.limits.TheConstants.{LONGEST_TEXT}
use Rattle.env_index.specs.Index.{IndexEntry, IndexValue, IsIndex}
use Rattle.env_index.specs.Interchange.{InterchangeEntry}
use Rattle.sets_again.specs.Fits.{table_fits}
use Rattle.sets_again.specs.Rows.{Row, are_refused, firsts, is_wanted, rows_after, rows_at}
use Rattle.sets_again.specs.Text.{interchange_part}
use Rattle.sets_again.specs.declared.wanted.Wanted.{Wanted}

-- which sets of an interchange are chosen, by its rows
abbrev pub chosen_in : Wanted → List Row → List Bool
chosen_in which rows = map (is_wanted which) (firsts rows)

-- of an interchange that is refused there is nothing
abbrev pub part_of : Wanted → (text : List ℕ) → InterchangeEntry → List Row → List ℕ
part_of which text x rows = if are_refused rows then [] else interchange_part text x (chosen_in which rows)

abbrev pub again_text : Wanted → (text : List ℕ) → List IndexEntry → List Row → List ℕ
again_text which text [] rows = []
again_text which text (e ∷ entries) rows =
    part_of which text e.interchange (rows_at e.interchange.start rows)
    ++ again_text which text entries (rows_after e.interchange.start rows)

-- the input is this text, and line feeds after it
abbrev pub is_all_of : (again text : List ℕ) → Bool
is_all_of again text = starts_with eqb text again && list_all (λ b. b == 10) (drop (length again) text)

-- after the last segment comes a line feed, or one more than the night's input has: so it isn't this input
abbrev pub with_line_end : (again text : List ℕ) → List ℕ
with_line_end [] text = []
with_line_end (b ∷ bs) text = (if is_all_of (b ∷ bs) text then text else b ∷ bs) ++ 10 ∷ []

-- what is printed for an input and the rows of its table, which fit it; nothing if no set goes in again
pub record IsAgain (which : Wanted) (text : List ℕ) (rows : List Row) (printed : List ℕ) : Type 0 where
  pub index : IndexValue
  pub index_is : IsIndex text index
  pub fits : table_fits index.entries rows ≡ true
  pub printed_is : printed ≡ with_line_end (again_text which text index.entries rows) text

-- the rows aren't those of the input, or it is longer than an input may be
abbrev pub IsUnfit : (text : List ℕ) → List Row → Type 0
IsUnfit text rows =
    (LONGEST_TEXT < length text) ⊎ ((index : IndexValue) × IsIndex text index × (table_fits index.entries rows ≡ false))
