-- The first fault of a value.
use Rattle.std.proofs.Common.{◌≡◌, ℕ, zero, suc, ◌+◌, ◌-◌, ◌*◌, List, [], ◌∷◌, length, Bool, true, false, ◌&&◌, ◌||◌, not, Option, Some}
use Rattle.std.proofs.Common.{None, refl, sym, ap, ◌∙◌, arith}
use Rattle.std.specs.Prelude.{◌==◌, nat_le, nat_lt, slice_index, slice_index_or, if◌then◌else◌, count_by}
use Rattle.std.specs.List.{list_all, list_any}
use Rattle.std.specs.Option.{option_or, option_map_or}
use Rattle.std.specs.Char.{is_ascii_digit}
use Rattle.guide_tree.specs.declared.element.ElementType.{ElementType}
use Rattle.guide_tree.specs.declared.element.ElementType.TheVariants.{Text, Identifier, Number, Decimal, Date, Time}
use Rattle.guide_tree.specs.declared.element.CodeList.{CodeList}
use Rattle.guide_tree.specs.declared.element.SimpleRow.{SimpleRow}
use Rattle.hub_kinds.specs.declared.codes.ElementCode.{ElementCode}
use Rattle.hub_kinds.specs.declared.codes.ElementCode.TheVariants as ik403
use Rattle.moment.specs.Moment as moment
use Rattle.moment.specs.Calendar as calendar
use Rattle.elem_rules.specs.Values as old
use Rattle.night_definition.specs.Values as room
use Rattle.night_equal_set.proofs.Facts.{swapped, associated}

digit_is : (text : List ℕ) (k : ℕ) → slice_index_or text k 48 - 48 ≡ slice_index text k - 48
digit_is [] k = refl
digit_is (b ∷ text) zero = refl
digit_is (b ∷ text) (suc k) = digit_is text k

pair_is : (text : List ℕ) (k : ℕ) → room.pair_at text k ≡ moment.pair_at text k
pair_is text k =
    ap (λ a. 10 * a + (slice_index_or text (k + 1) 48 - 48)) (digit_is text k)
    ∙ ap (λ b. 10 * (slice_index text k - 48) + b) (digit_is text (k + 1))

day_is : (year month day : ℕ) → room.is_day year month day ≡ calendar.is_day year month day
day_is year month day = grind arith

abbrev dated : (size a b c d : ℕ) → Bool
dated size a b c d =
    (size == 8 && nat_le 1 (100 * a + b) && calendar.is_day (100 * a + b) c d) || (size == 6 && calendar.is_day (2000 + a) b c)

date_is : (text : List ℕ) → room.is_date text ≡ (calendar.is_long_date text || calendar.is_short_date text)
date_is text =
    let n : ℕ = length text in
    let r : ℕ → ℕ = λ k. room.pair_at text k in
    let o : ℕ → ℕ = λ k. moment.pair_at text k in
    ap (λ x. (n == 8 && nat_le 1 (100 * r 0 + r 2) && x) || (n == 6 && room.is_day (2000 + r 0) (r 2) (r 4)))
    (day_is (100 * r 0 + r 2) (r 4) (r 6))
    ∙ ap (λ x. (n == 8 && nat_le 1 (100 * r 0 + r 2) && calendar.is_day (100 * r 0 + r 2) (r 4) (r 6)) || (n == 6 && x))
    (day_is (2000 + r 0) (r 2) (r 4))
    ∙ ap (λ a. dated n a (r 2) (r 4) (r 6)) (pair_is text 0)
    ∙ ap (λ b. dated n (o 0) b (r 4) (r 6)) (pair_is text 2)
    ∙ ap (λ c. dated n (o 0) (o 2) c (r 6)) (pair_is text 4)
    ∙ ap (λ d. dated n (o 0) (o 2) (o 4) d) (pair_is text 6)

abbrev timed : (size a b c : ℕ) → Bool
timed size a b c =
    (size == 4 || (nat_le 6 size && nat_le size 8 && nat_le c 59)) && nat_le a 23 && nat_le b 59

time_is : (text : List ℕ) → room.is_time text ≡ timed (length text) (moment.pair_at text 0) (moment.pair_at text 2)
    (moment.pair_at text 4)
time_is text =
    let n : ℕ = length text in
    let r : ℕ → ℕ = λ k. room.pair_at text k in
    let o : ℕ → ℕ = λ k. moment.pair_at text k in
    ap (λ a. timed n a (r 2) (r 4)) (pair_is text 0) ∙ ap (λ b. timed n (o 0) b (r 4)) (pair_is text 2)
    ∙ ap (λ c. timed n (o 0) (o 2) c) (pair_is text 4)

old_date : (text : List ℕ) → calendar.is_digits text ≡ true → calendar.is_date text
    ≡ (calendar.is_long_date text || calendar.is_short_date text)
old_date text is = ap (λ b. b && (calendar.is_long_date text || calendar.is_short_date text)) is

old_time : (text : List ℕ) → calendar.is_digits text ≡ true
    → calendar.is_time text ≡ timed (length text) (moment.pair_at text 0) (moment.pair_at text 2) (moment.pair_at text 4)
old_time text is =
    let n : ℕ = length text in
    let o : ℕ → ℕ = λ k. moment.pair_at text k in
    ap (λ b. b && ((n == 4) || ((nat_le 6 n && nat_le n 8) && nat_le (o 4) 59)) && nat_le (o 0) 23 && nat_le (o 2) 59) is
    ∙ shape (n == 4) (nat_le 6 n) (nat_le n 8) (nat_le (o 4) 59) (nat_le (o 0) 23) (nat_le (o 2) 59)
  where
    shape : (a b c d e f : Bool) → (true && ((a || ((b && c) && d))) && e && f) ≡ ((a || (b && c && d)) && e && f)
    shape true b c d e f = refl
    shape false true c d e f = refl
    shape false false c d e f = refl

-- of a text in the form of its type
calendars : (type : ElementType) (wide : Bool) (text : List ℕ) → room.is_form type wide text ≡ true
    → room.calendar_fault type text ≡ old.calendar_fault type text
calendars Text wide text is = refl
calendars Identifier wide text is = refl
calendars (Number places) wide text is = refl
calendars Decimal wide text is = refl
calendars Date wide text is = ap (λ b. if b then None else Some ik403.InvalidDate) (date_is text ∙ sym (old_date text is))
calendars Time wide text is = ap (λ b. if b then None else Some ik403.InvalidTime) (time_is text ∙ sym (old_time text is))

points : (text : List ℕ) → count_by (λ b. b == 46) text ≡ count_by old.is_point (old.without_sign text)
points [] = refl
points (b ∷ text) = by (b == 45) refl
  where
    by : (c : Bool) → (b == 45) ≡ c → count_by (λ b. b == 46) (b ∷ text) ≡ count_by old.is_point (if c then text else b ∷ text)
    by true is = grind arith
    by false is = refl

some_digit : (text : List ℕ) → list_any is_ascii_digit text ≡ list_any is_ascii_digit (old.without_sign text)
some_digit [] = refl
some_digit (b ∷ text) = by (b == 45) refl
  where
    by : (c : Bool) → (b == 45) ≡ c → list_any is_ascii_digit (b ∷ text) ≡ list_any is_ascii_digit (if c then text else b ∷ text)
    by true is = grind arith
    by false is = refl

signs : (text : List ℕ) → room.without_sign text ≡ old.without_sign text
signs [] = refl
signs (b ∷ text) = refl

forms : (type : ElementType) (wide : Bool) (text : List ℕ) → room.is_form type wide text ≡ old.is_form type wide text
forms Text wide text = refl
forms Identifier wide text = refl
forms (Number places) wide text =
    ap (λ t. room.is_digits t && nat_le 1 (length t)) (signs text)
    ∙ swapped (room.is_digits (old.without_sign text)) (nat_le 1 (length (old.without_sign text)))
forms Decimal wide text =
    let t : List ℕ = old.without_sign text in
    ap (λ t. list_all (λ b. is_ascii_digit b || b == 46) t && nat_le (count_by (λ b. b == 46) text) 1 && list_any is_ascii_digit text)
    (signs text)
    ∙ ap (λ n. list_all (λ b. is_ascii_digit b || b == 46) t && nat_le n 1 && list_any is_ascii_digit text) (points text)
    ∙ ap (λ x. list_all (λ b. is_ascii_digit b || b == 46) t && nat_le (count_by old.is_point t) 1 && x) (some_digit text)
forms Date wide text = refl
forms Time wide text = refl

lengths : (type : ElementType) (text : List ℕ) → room.value_length type text ≡ old.value_length type text
lengths Text text = refl
lengths Identifier text = refl
lengths (Number places) text = refl
lengths Decimal text = refl
lengths Date text = refl
lengths Time text = refl

listed_is : (codes : Option CodeList) (text : List ℕ) → option_map_or (λ listed. room.code_fault listed text) codes None
    ≡ old.code_fault codes text
listed_is None text = refl
listed_is (Some listed) text = refl

abbrev chain : (form : Bool) (size min max : ℕ) (code calendar : Option ElementCode) → Option ElementCode
chain form size min max code calendar =
    if not form then Some ik403.InvalidCharacter
    else (if nat_lt size min then Some ik403.TooShort
    else (if nat_lt max size then Some ik403.TooLong
    else option_or code calendar))

pub values : (row : SimpleRow) (text : List ℕ) → room.value_fault row text ≡ old.value_fault row text
values row text =
    let code : Option ElementCode = option_map_or (λ listed. room.code_fault listed text) row.codes None in
    let calendar : Option ElementCode = room.calendar_fault row.data_type text in
    let size : ℕ = room.value_length row.data_type text in
    by (room.is_form row.data_type row.wide text) refl
    ∙ ap (λ f. chain f size row.min row.max code (old.calendar_fault row.data_type text)) (forms row.data_type row.wide text)
    ∙ ap (λ n. chain (old.is_form row.data_type row.wide text) n row.min row.max code (old.calendar_fault row.data_type text))
    (lengths row.data_type text)
    ∙ ap (λ c. chain (old.is_form row.data_type row.wide text) (old.value_length row.data_type text) row.min row.max c
    (old.calendar_fault row.data_type text))
    (listed_is row.codes text)
  where
    by : (f : Bool) → room.is_form row.data_type row.wide text ≡ f
        → chain f (room.value_length row.data_type text) row.min row.max
        (option_map_or (λ listed. room.code_fault listed text) row.codes None)
        (room.calendar_fault row.data_type text)
        ≡ chain f (room.value_length row.data_type text) row.min row.max
        (option_map_or (λ listed. room.code_fault listed text) row.codes None)
        (old.calendar_fault row.data_type text)
    by true is = ap (λ k. chain true (room.value_length row.data_type text) row.min row.max
        (option_map_or (λ listed. room.code_fault listed text) row.codes None) k)
        (calendars row.data_type row.wide text is)
    by false is = refl
