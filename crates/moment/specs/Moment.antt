-- X12.6, date and time data element types (DT, TM): a moment as its twelve digits CCYYMMDDHHMM.
use Rattle.std.specs.Prelude.{ℕ, ◌≡◌, ◌+◌, ◌-◌, ◌*◌, ◌≤◌, List, length, take, All, slice_index, slice_range, pos}
use Rattle.std.specs.Char.{IsAsciiDigit}
use Rattle.jiff.specs.Words.{days_in_month}

-- the number that the two digits at a place spell
abbrev pub pair_at : List ℕ → ℕ → ℕ
pair_at text place =
    10 * (slice_index text place - 48) + (slice_index text (place + 1) - 48)

-- the year CCYY
abbrev pub year_of : List ℕ → ℕ
year_of text = 100 * pair_at text 0 + pair_at text 2

-- the calendar has this day
pub record IsDay (year month day : ℕ) : Type 0 where
  pub month_from : 1 ≤ month
  pub month_to : month ≤ 12
  pub day_from : 1 ≤ day
  pub day_to : day ≤ days_in_month (pos year) month

-- twelve digits CCYYMMDDHHMM whose day and time exist
pub record IsMoment (text : List ℕ) : Type 0 where
  pub len : length text ≡ 12
  pub digits : All IsAsciiDigit text
  pub year : 1 ≤ year_of text
  pub day : IsDay (year_of text) (pair_at text 4) (pair_at text 6)
  pub hour : pair_at text 8 ≤ 23
  pub minute : pair_at text 10 ≤ 59

-- the day as CCYYMMDD
abbrev pub date_of : List ℕ → List ℕ
date_of text = take 8 text

-- the day as YYMMDD
abbrev pub short_date_of : List ℕ → List ℕ
short_date_of text = slice_range text 2 8

-- the time as HHMM
abbrev pub time_of : List ℕ → List ℕ
time_of text = slice_range text 8 12
