-- X12.6, date and time data element types (DT, TM): which dates and times there are. Dates of six digits are own.
use Rattle.std.specs.Prelude.{ℕ, ◌==◌, ◌+◌, nat_le, List, length, take, drop, pos}
use Rattle.std.specs.Prelude.{Bool, ◌&&◌, ◌||◌}
use Rattle.std.specs.List.{list_all}
use Rattle.std.specs.Char.{is_ascii_digit}
use Rattle.jiff.specs.Words.{days_in_month}
use Rattle.moment.specs.Moment.{pair_at, year_of}

abbrev pub is_digits : List ℕ → Bool
is_digits text = list_all is_ascii_digit text

-- the calendar has this day
abbrev pub is_day : ℕ → ℕ → ℕ → Bool
is_day year month day =
    (nat_le 1 month && nat_le month 12) && (nat_le 1 day && nat_le day (days_in_month (pos year) month))

-- CCYYMMDD of the years 0001 to 9999
abbrev pub is_long_date : List ℕ → Bool
is_long_date text = (length text == 8) && nat_le 1 (year_of text) && is_day (year_of text) (pair_at text 4) (pair_at text 6)

-- YYMMDD of the years 2000 to 2099
abbrev pub is_short_date : List ℕ → Bool
is_short_date text = (length text == 6) && is_day (2000 + pair_at text 0) (pair_at text 2) (pair_at text 4)

abbrev pub is_date : List ℕ → Bool
is_date text = is_digits text && (is_long_date text || is_short_date text)

-- HHMM, or HHMMSS, HHMMSSD, HHMMSSDD
abbrev pub is_time : List ℕ → Bool
is_time text =
    is_digits text
    && ((length text == 4) || ((nat_le 6 (length text) && nat_le (length text) 8) && nat_le (pair_at text 4) 59))
    && nat_le (pair_at text 0) 23
    && nat_le (pair_at text 2) 59

-- a moment is twelve digits, of which the first eight are a date and the last four a time
abbrev pub is_moment : List ℕ → Bool
is_moment text = (length text == 12) && is_date (take 8 text) && is_time (drop 8 text)
