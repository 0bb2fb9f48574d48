-- The dates and times that exist are the same as text is read by `moment`.
use Rattle.std.proofs.Common.{◌≡◌, ℕ, zero, suc, ◌+◌, ◌-◌, ◌*◌, List, [], ◌∷◌, length, Bool, true, false, ◌&&◌, ◌||◌, Some, None, refl, sym}
use Rattle.std.proofs.Common.{ap, ◌∙◌, arith}
use Rattle.std.specs.Prelude.{◌==◌, is_none, nat_le, slice_index, slice_index_or, if◌then◌else◌}
use Rattle.hub_kinds.specs.declared.codes.ElementCode.{ElementCode}
use Rattle.hub_kinds.specs.declared.codes.ElementCode.TheVariants as ik403
use Rattle.guide_tree.specs.declared.element.ElementType.{ElementType}
use Rattle.guide_tree.specs.declared.element.ElementType.TheVariants.{Date, Time}
use Rattle.guide_tree.specs.declared.element.SimpleRow.{SimpleRow}
use Rattle.moment.specs.Calendar as calendar
use Rattle.moment.specs.Moment as moment
use Rattle.night_definition.specs.Values as room
use Rattle.guide_warnings.specs.Codes.{has_form}

digit_is : (text : List ℕ) (k : ℕ) → slice_index_or text k 48 - 48 ≡ slice_index text k - 48
digit_is [] k = refl
digit_is (b ∷ text) zero = refl
digit_is (b ∷ text) (suc k) = digit_is text k

pair_is : (text : List ℕ) (k : ℕ) → room.pair_at text k ≡ moment.pair_at text k
pair_is text k =
    ap (λ a. 10 * a + (slice_index_or text (k + 1) 48 - 48)) (digit_is text k)
    ∙ ap (λ b. 10 * (slice_index text k - 48) + b) (digit_is text (k + 1))

day_is : (year month day : ℕ) → room.is_day year month day ≡ calendar.is_day year month day
day_is year month day = grind arith

-- a date by its length and its pairs of digits, and by what a day is
abbrev dated : (day : ℕ → ℕ → ℕ → Bool) (size a b c d : ℕ) → Bool
dated day size a b c d = (size == 8 && nat_le 1 (100 * a + b) && day (100 * a + b) c d) || (size == 6 && day (2000 + a) b c)

days : (size a b c d : ℕ) → dated room.is_day size a b c d ≡ dated calendar.is_day size a b c d
days size a b c d =
    ap (λ x. (size == 8 && nat_le 1 (100 * a + b) && x) || (size == 6 && room.is_day (2000 + a) b c)) (day_is (100 * a + b) c d)
    ∙ ap (λ x. (size == 8 && nat_le 1 (100 * a + b) && calendar.is_day (100 * a + b) c d) || (size == 6 && x)) (day_is (2000 + a) b c)

date_is : (text : List ℕ) → room.is_date text ≡ (calendar.is_long_date text || calendar.is_short_date text)
date_is text =
    let n : ℕ = length text in
    let r : ℕ → ℕ = λ k. room.pair_at text k in
    let o : ℕ → ℕ = λ k. moment.pair_at text k in
    days n (r 0) (r 2) (r 4) (r 6)
    ∙ ap (λ a. dated calendar.is_day n a (r 2) (r 4) (r 6)) (pair_is text 0)
    ∙ ap (λ b. dated calendar.is_day n (o 0) b (r 4) (r 6)) (pair_is text 2)
    ∙ ap (λ c. dated calendar.is_day n (o 0) (o 2) c (r 6)) (pair_is text 4)
    ∙ ap (λ d. dated calendar.is_day n (o 0) (o 2) (o 4) d) (pair_is text 6)

abbrev timed : (size a b c : ℕ) → Bool
timed size a b c =
    (size == 4 || (nat_le 6 size && nat_le size 8 && nat_le c 59)) && nat_le a 23 && nat_le b 59

time_is : (text : List ℕ) → room.is_time text ≡ timed (length text) (moment.pair_at text 0) (moment.pair_at text 2)
    (moment.pair_at text 4)
time_is text =
    let n : ℕ = length text in
    let r : ℕ → ℕ = λ k. room.pair_at text k in
    let o : ℕ → ℕ = λ k. moment.pair_at text k in
    ap (λ a. timed n a (r 2) (r 4)) (pair_is text 0) ∙ ap (λ b. timed n (o 0) b (r 4)) (pair_is text 2)
    ∙ ap (λ c. timed n (o 0) (o 2) c) (pair_is text 4)

no_code : (exists : Bool) (code : ElementCode) → is_none (if exists then None else Some code) ≡ exists
no_code true code = refl
no_code false code = refl

abbrev formed : SimpleRow → List ℕ → ElementType → Bool
formed row text type = room.is_form type row.wide text && is_none (room.calendar_fault type text)

pub dates : (row : SimpleRow) (text : List ℕ) → row.data_type ≡ Date → calendar.is_date text ≡ has_form row text
dates row text is =
    ap (λ x. room.is_digits text && x) (sym (no_code (room.is_date text) ik403.InvalidDate ∙ date_is text)) ∙ sym (ap (formed row text) is)

pub times : (row : SimpleRow) (text : List ℕ) → row.data_type ≡ Time → calendar.is_time text ≡ has_form row text
times row text is =
    let n : ℕ = length text in
    let o : ℕ → ℕ = λ k. moment.pair_at text k in
    shape (room.is_digits text) (n == 4) (nat_le 6 n) (nat_le n 8) (nat_le (o 4) 59) (nat_le (o 0) 23) (nat_le (o 2) 59)
    ∙ ap (λ x. room.is_digits text && x) (sym (no_code (room.is_time text) ik403.InvalidTime ∙ time_is text))
    ∙ sym (ap (formed row text) is)
  where
    shape : (digits a b c d e f : Bool) → (digits && (a || ((b && c) && d)) && e && f) ≡ (digits && ((a || (b && c && d)) && e && f))
    shape false a b c d e f = refl
    shape true true b c d e f = refl
    shape true false true c d e f = refl
    shape true false false c d e f = refl
