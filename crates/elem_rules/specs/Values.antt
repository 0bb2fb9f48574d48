-- X12.6, data element types: what a value is made of and how its length is counted; and the 999 guide, IK403: the first fault of
-- a value.
use Rattle.std.specs.Prelude.{ℕ, ◌==◌, nat_le, nat_lt, List, [], ◌∷◌, length}
use Rattle.std.specs.Prelude.{Option, Some, None, Bool, false, ◌&&◌, ◌||◌, not, if◌then◌else◌}
use Rattle.std.specs.List.{list_any, list_all, count_by}
use Rattle.std.specs.Option.{option_map_or, option_or}
use Rattle.std.specs.Char.{is_ascii_digit}
use Rattle.guide_tree.specs.declared.element.ElementType.{ElementType}
use Rattle.guide_tree.specs.declared.element.ElementType.TheVariants.{Text, Identifier, Number, Decimal, Date, Time}
use Rattle.guide_tree.specs.declared.element.CodeList.{CodeList}
use Rattle.guide_tree.specs.declared.element.SimpleRow.{SimpleRow}
use Rattle.guide_tree.specs.Words.{is_within}
use Rattle.hub_kinds.specs.declared.codes.ElementCode.{ElementCode}
use Rattle.hub_kinds.specs.declared.codes.ElementCode.TheVariants as ik403
use Rattle.hub_kinds.specs.Words.{contains_text}
use Rattle.moment.specs.Calendar.{is_digits, is_date, is_time}

-- from space to tilde, and where the row is wide from 0x80 on
abbrev pub is_character : Bool → ℕ → Bool
is_character wide byte = is_within 32 126 byte || (wide && nat_le 128 byte)

-- a number without the minus sign that it may begin with
abbrev pub without_sign : List ℕ → List ℕ
without_sign [] = []
without_sign (byte ∷ bytes) = if byte == 45 then bytes else byte ∷ bytes

-- one or more digits
abbrev pub is_whole : List ℕ → Bool
is_whole text = nat_le 1 (length text) && is_digits text

abbrev pub is_point : ℕ → Bool
is_point byte = byte == 46

-- digits, one or more of them, and at most one point
abbrev pub is_decimal : List ℕ → Bool
is_decimal text =
    list_all (λ byte. is_ascii_digit byte || is_point byte) text
    && nat_le (count_by is_point text) 1
    && list_any is_ascii_digit text

-- the text has the bytes and the form that its type allows
abbrev pub is_form : ElementType → Bool → List ℕ → Bool
is_form Text wide text = list_all (is_character wide) text
is_form Identifier wide text = list_all (is_character wide) text
is_form (Number places) wide text = is_whole (without_sign text)
is_form Decimal wide text = is_decimal (without_sign text)
is_form Date wide text = is_digits text
is_form Time wide text = is_digits text

-- bytes; of numbers, whose sign and point don't count, the digits
abbrev pub value_length : ElementType → List ℕ → ℕ
value_length Text text = length text
value_length Identifier text = length text
value_length (Number places) text = count_by is_ascii_digit text
value_length Decimal text = count_by is_ascii_digit text
value_length Date text = length text
value_length Time text = length text

-- a value that isn't among the used codes of its row: known, but not used, or not known
abbrev pub code_fault : Option CodeList → List ℕ → Option ElementCode
code_fault None text = None
code_fault (Some listed) text =
    if contains_text listed.used text then None
    else (if option_map_or (λ unused. contains_text unused text) listed.unused false then Some ik403.CodeNotUsed
    else Some ik403.InvalidCode)

-- a date or a time that there is not
abbrev pub calendar_fault : ElementType → List ℕ → Option ElementCode
calendar_fault Date text = if is_date text then None else Some ik403.InvalidDate
calendar_fault Time text = if is_time text then None else Some ik403.InvalidTime
calendar_fault other text = None

-- the first fault of a value that isn't empty: its form, its length, its code, its date or time
abbrev pub value_fault : SimpleRow → List ℕ → Option ElementCode
value_fault row text =
    if not (is_form row.data_type row.wide text) then Some ik403.InvalidCharacter
    else (if nat_lt (value_length row.data_type text) row.min then Some ik403.TooShort
    else (if nat_lt row.max (value_length row.data_type text) then Some ik403.TooLong
    else option_or (code_fault row.codes text) (calendar_fault row.data_type text)))
