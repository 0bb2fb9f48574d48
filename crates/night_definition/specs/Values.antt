-- X12.6, data element types: the characters of a value and its length; and 999 guide, IK403: a value's first fault.
use Rattle.std.specs.Prelude.{ℕ, ◌+◌, ◌-◌, ◌*◌, ◌%◌, ◌==◌, nat_le, nat_lt, List, [], ◌∷◌, length, Option, Some, None, Bool, false, ◌&&◌}
use Rattle.std.specs.Prelude.{◌||◌}
use Rattle.std.specs.Prelude.{not, if◌then◌else◌, count_by, slice_index_or}
use Rattle.std.specs.List.{list_any, list_all}
use Rattle.std.specs.Option.{option_map_or, option_or}
use Rattle.std.specs.Char.{is_ascii_digit}
use Rattle.guide_tree.specs.declared.element.ElementType.{ElementType}
use Rattle.guide_tree.specs.declared.element.ElementType.TheVariants.{Text, Identifier, Number, Decimal, Date, Time}
use Rattle.guide_tree.specs.declared.element.CodeList.{CodeList}
use Rattle.guide_tree.specs.declared.element.SimpleRow.{SimpleRow}
use Rattle.hub_kinds.specs.declared.codes.ElementCode.{ElementCode}
use Rattle.hub_kinds.specs.declared.codes.ElementCode.TheVariants as ik403
use Rattle.night_definition.specs.Guides.{is_among}

abbrev pub is_digits : List ℕ → Bool
is_digits text = list_all is_ascii_digit text

-- two digits of a text as a number
abbrev pub pair_at : List ℕ → ℕ → ℕ
pair_at text place = 10 * (slice_index_or text place 48 - 48) + (slice_index_or text (place + 1) 48 - 48)

abbrev pub days_in : (year month : ℕ) → ℕ
days_in year month =
    if month == 2 then (if year % 4 == 0 && (not (year % 100 == 0) || year % 400 == 0) then 29 else 28)
    else if month == 4 || month == 6 || month == 9 || month == 11 then 30 else 31

abbrev pub is_day : (year month day : ℕ) → Bool
is_day year month day = nat_le 1 month && nat_le month 12 && nat_le 1 day && nat_le day (days_in year month)

-- CCYYMMDD in the years 1 to 9999; YYMMDD in this century (own)
abbrev pub is_date : List ℕ → Bool
is_date text =
    let year = 100 * pair_at text 0 + pair_at text 2 in
    (length text == 8 && nat_le 1 year && is_day year (pair_at text 4) (pair_at text 6))
    || (length text == 6 && is_day (2000 + pair_at text 0) (pair_at text 2) (pair_at text 4))

-- HHMM, HHMMSS, HHMMSSD, HHMMSSDD
abbrev pub is_time : List ℕ → Bool
is_time text =
    (length text == 4 || (nat_le 6 (length text) && nat_le (length text) 8 && nat_le (pair_at text 4) 59))
    && nat_le (pair_at text 0) 23 && nat_le (pair_at text 2) 59

abbrev pub is_character : (wide : Bool) → ℕ → Bool
is_character wide b = (nat_le 32 b && nat_le b 126) || (wide && nat_le 128 b)

abbrev pub without_sign : List ℕ → List ℕ
without_sign [] = []
without_sign (b ∷ text) = if b == 45 then text else b ∷ text

abbrev pub is_form : ElementType → (wide : Bool) → List ℕ → Bool
is_form Text wide text = list_all (is_character wide) text
is_form Identifier wide text = list_all (is_character wide) text
is_form (Number places) wide text = is_digits (without_sign text) && nat_le 1 (length (without_sign text))
is_form Decimal wide text =
    list_all (λ b. is_ascii_digit b || b == 46) (without_sign text)
    && nat_le (count_by (λ b. b == 46) text) 1 && list_any is_ascii_digit text
is_form Date wide text = is_digits text
is_form Time wide text = is_digits text

-- in bytes; of a number only digits count
abbrev pub value_length : ElementType → List ℕ → ℕ
value_length (Number places) text = count_by is_ascii_digit text
value_length Decimal text = count_by is_ascii_digit text
value_length type text = length text

abbrev pub code_fault : CodeList → List ℕ → Option ElementCode
code_fault listed text =
    if is_among listed.used text then None
    else if option_map_or (λ unused. is_among unused text) listed.unused false then Some ik403.CodeNotUsed
    else Some ik403.InvalidCode

abbrev pub calendar_fault : ElementType → List ℕ → Option ElementCode
calendar_fault Date text = if is_date text then None else Some ik403.InvalidDate
calendar_fault Time text = if is_time text then None else Some ik403.InvalidTime
calendar_fault type text = None

abbrev pub value_fault : SimpleRow → List ℕ → Option ElementCode
value_fault row text =
    if not (is_form row.data_type row.wide text) then Some ik403.InvalidCharacter
    else if nat_lt (value_length row.data_type text) row.min then Some ik403.TooShort
    else if nat_lt row.max (value_length row.data_type text) then Some ik403.TooLong
    else option_or (option_map_or (λ listed. code_fault listed text) row.codes None) (calendar_fault row.data_type text)
