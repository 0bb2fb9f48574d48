-- The digits of a number, counted by its bytes.
use Rattle.std.proofs.Common.{◌≡◌, ℕ, suc, ◌+◌, ◌-◌, ◌<◌, ◌≤◌, ◌∙◌, List, [], ◌∷◌, Bool, true, false, length, refl, ap, sym, arith}
use Rattle.std.specs.Prelude.{Option, Some, None, ◌==◌, ◌&&◌, ◌||◌, nat_le, if◌then◌else◌}
use Rattle.std.specs.List.{list_all, list_any, filter, count_by}
use Rattle.std.specs.Char.{is_ascii_digit}
use mathlib.Core.Logic.{inl, inr}
use Rattle.std.proofs.lemmas.Bool.{cases_Bool, eqb-true, le-leb, leb-true, lt-leb, false≢true}
use Rattle.std.proofs.lemmas.List.Sums.{length-filter}
use Rattle.guide_tree.specs.declared.element.ElementType.{ElementType}
use Rattle.guide_tree.specs.declared.element.ElementType.TheVariants.{Number}
use Rattle.elem_rules.specs.Values.{without_sign, is_whole, is_point, is_decimal, is_form, value_length}
use Rattle.moment.specs.Calendar.{is_digits}
use Rattle.moment.proofs.ForAbove.{both}

-- digits alone are all counted
all_digits : (text : List ℕ) → is_digits text ≡ true → length (filter is_ascii_digit text) ≡ length text
all_digits [] h = refl
all_digits (x ∷ xs) h =
    let e = both (is_ascii_digit x) (is_digits xs) h in
    ap (λ b. length (if b then x ∷ filter is_ascii_digit xs else filter is_ascii_digit xs)) e.0 ∙ ap suc (all_digits xs e.1)

all_counted : (text : List ℕ) → is_digits text ≡ true → count_by is_ascii_digit text ≡ length text
all_counted text h = sym (length-filter is_ascii_digit text) ∙ all_digits text h

-- the sign isn't counted
unsigned_step : (x : ℕ) (xs : List ℕ) (b : Bool) → (x == 45) ≡ b
    → length (filter is_ascii_digit (if b then xs else x ∷ xs)) ≡ length (filter is_ascii_digit (x ∷ xs))
unsigned_step x xs true h =
    let is : x ≡ 45 = eqb-true x 45 h in
    ap (λ y. length (filter is_ascii_digit (y ∷ xs))) (sym is)
unsigned_step x xs false h = refl

unsigned_filter : (text : List ℕ) → length (filter is_ascii_digit (without_sign text)) ≡ length (filter is_ascii_digit text)
unsigned_filter [] = refl
unsigned_filter (x ∷ xs) = unsigned_step x xs (x == 45) refl

pub unsigned : (text : List ℕ) → count_by is_ascii_digit (without_sign text) ≡ count_by is_ascii_digit text
unsigned text = sym (length-filter is_ascii_digit (without_sign text)) ∙ unsigned_filter text ∙ length-filter is_ascii_digit text

whole_if : (digits text : List ℕ) (b : Bool) → is_whole digits ≡ b → count_by is_ascii_digit digits ≡ count_by is_ascii_digit text
    → (if b then Some (length digits) else None) ≡ (if b then Some (count_by is_ascii_digit text) else None)
whole_if digits text true h e = ap Some (sym (all_counted digits (both (nat_le 1 (length digits)) (is_digits digits) h).1) ∙ e)
whole_if digits text false h e = refl

pub whole_measured : (text : List ℕ) → (if is_whole (without_sign text) then Some (length (without_sign text)) else None) ≡
    (if is_whole (without_sign text) then Some (count_by is_ascii_digit text) else None)
whole_measured text = whole_if (without_sign text) text (is_whole (without_sign text)) refl (unsigned text)

pub number_measured : (t : ElementType) (places : ℕ) (wide : Bool) (given text : List ℕ) (r : Option ℕ) → t ≡ Number places
    → given ≡ without_sign text → r ≡ (if is_whole given then Some (length given) else None)
    → r ≡ (if is_form t wide text then Some (value_length t text) else None)
number_measured t places wide given text r is same step =
    step ∙ ap (λ l. if is_whole l then Some (length l) else None) same ∙ whole_measured text
    ∙ ap (λ t. if is_form t wide text then Some (value_length t text) else None) (sym is)

-- a digit is no point
digit_or_point : (x : ℕ) (d p : Bool) → is_ascii_digit x ≡ d → is_point x ≡ p → (d || p) ≡ true → (xs ys : List ℕ) (n : ℕ)
    → length xs + length ys ≡ n
    → length (if d then x ∷ xs else xs) + length (if p then x ∷ ys else ys) ≡ suc n
digit_or_point x true true dd pp h xs ys n e =
    let is : x ≡ 46 = eqb-true x 46 pp in
    let no : is_ascii_digit 46 ≡ true = sym (ap is_ascii_digit is) ∙ dd in
    absurd (false≢true no)
digit_or_point x true false dd pp h xs ys n e = omega (arith, e)
digit_or_point x false true dd pp h xs ys n e = omega (arith, e)
digit_or_point x false false dd pp h xs ys n e = cc

digits_and_points : (text : List ℕ) → list_all (λ byte. is_ascii_digit byte || is_point byte) text ≡ true
    → length (filter is_ascii_digit text) + length (filter is_point text) ≡ length text
digits_and_points [] h = refl
digits_and_points (x ∷ xs) h =
    let e = both (is_ascii_digit x || is_point x) (list_all (λ byte. is_ascii_digit byte || is_point byte) xs) h in
    digit_or_point x (is_ascii_digit x) (is_point x) refl refl e.0 (filter is_ascii_digit xs) (filter is_point xs) (length xs)
    (digits_and_points xs e.1)

has_some : (p : ℕ → Bool) (xs : List ℕ) → nat_le 1 (length (filter p xs)) ≡ list_any p xs
has_some p [] = refl
has_some p (x ∷ xs) = elim (p x) as (λ b. nat_le 1 (length (if b then x ∷ filter p xs else filter p xs)) ≡ (b || list_any p xs)) [
  | true ↦ le-leb 1 (suc (length (filter p xs))) (omega arith)
  | false ↦ has_some p xs
]

-- of digits and points the digits are those that aren't points
pub decimal_count : (text : List ℕ) (points : ℕ) → list_all (λ byte. is_ascii_digit byte || is_point byte) text ≡ true
    → points ≡ count_by is_point text → count_by is_ascii_digit text ≡ length text - points
decimal_count text points h is =
    let d = length-filter is_ascii_digit text in
    let p = length-filter is_point text in
    let both = digits_and_points text h in
    omega (arith, d, p, both, is)

decimal_of : (text : List ℕ) (a b c : Bool) → list_all (λ byte. is_ascii_digit byte || is_point byte) text ≡ a
    → nat_le (count_by is_point text) 1 ≡ b → list_any is_ascii_digit text ≡ c → is_decimal text ≡ ((a && b) && c)
decimal_of text a b c e f g =
    ap (λ x. (x && nat_le (count_by is_point text) 1) && list_any is_ascii_digit text) e
    ∙ ap (λ x. (a && x) && list_any is_ascii_digit text) f ∙ ap (λ x. (a && b) && x) g

pub decimal_good : (text : List ℕ) (points : ℕ) → true ≡ list_all (λ byte. is_ascii_digit byte || is_point byte) text
    → points ≡ count_by is_point text → points ≤ 1 → 1 ≤ length text - points
    → Some (length text - points) ≡ (if is_decimal text then Some (count_by is_ascii_digit text) else None)
decimal_good text points h is few some =
    let n = decimal_count text points (sym h) is in
    let c = length-filter is_ascii_digit text in
    let one : 1 ≤ length (filter is_ascii_digit text) = omega (arith, n, c, some) in
    let good : is_decimal text ≡ true = decimal_of text true true true (sym h) (le-leb (count_by is_point text) 1 (omega (arith, is, few)))
    (sym (has_some is_ascii_digit text) ∙ le-leb 1 (length (filter is_ascii_digit text)) one) in
    ap Some (sym n) ∙ ap (λ b. if b then Some (count_by is_ascii_digit text) else None) (sym good)

and_false : (a b : Bool) → b ≡ false → (a && b) ≡ false
and_false true b h = h
and_false false b h = refl

pub decimal_points : (text : List ℕ) (points : ℕ) → points ≡ count_by is_point text → 1 < points
    → None ≡ (if is_decimal text then Some (count_by is_ascii_digit text) else None)
decimal_points text points is many =
    let b : nat_le (count_by is_point text) 1 ≡ false = lt-leb (count_by is_point text) 1 (omega (arith, is, many)) in
    let all = list_all (λ byte. is_ascii_digit byte || is_point byte) text in
    let bad : is_decimal text ≡ false = ap (λ x. x && list_any is_ascii_digit text) (and_false all (nat_le (count_by is_point text) 1) b) in
    ap (λ b. if b then Some (count_by is_ascii_digit text) else None) (sym bad)

pub decimal_none : (text : List ℕ) (points : ℕ) → true ≡ list_all (λ byte. is_ascii_digit byte || is_point byte) text
    → points ≡ count_by is_point text → length text - points ≡ 0
    → None ≡ (if is_decimal text then Some (count_by is_ascii_digit text) else None)
decimal_none text points h is none =
    let n = decimal_count text points (sym h) is in
    let c = length-filter is_ascii_digit text in
    let zero_digits : length (filter is_ascii_digit text) ≡ 0 = c ∙ n ∙ none in
    let no : list_any is_ascii_digit text ≡ false = sym (has_some is_ascii_digit text) ∙ ap (nat_le 1) zero_digits in
    let bad : is_decimal text ≡ false = and_false
    (list_all (λ byte. is_ascii_digit byte || is_point byte) text && nat_le (count_by is_point text) 1)
    (list_any is_ascii_digit text) no in
    ap (λ b. if b then Some (count_by is_ascii_digit text) else None) (sym bad)

-- digits alone begin with no sign and have no point
digit_no_sign : (x : ℕ) → is_ascii_digit x ≡ true → (x == 45) ≡ false
digit_no_sign x h = elim (cases_Bool (x == 45)) [
  | inl e ↦
      let is : x ≡ 45 = eqb-true x 45 e in
      let no : is_ascii_digit 45 ≡ true = sym (ap is_ascii_digit is) ∙ h in
      absurd (false≢true no)
  | inr e ↦ e
]

unsigned_digits : (text : List ℕ) → is_digits text ≡ true → without_sign text ≡ text
unsigned_digits [] h = refl
unsigned_digits (x ∷ xs) h =
    ap (λ b. if b then xs else x ∷ xs) (digit_no_sign x (both (is_ascii_digit x) (is_digits xs) h).0)

digits_or_points : (text : List ℕ) → is_digits text ≡ true → list_all (λ byte. is_ascii_digit byte || is_point byte) text ≡ true
digits_or_points [] h = refl
digits_or_points (x ∷ xs) h =
    let e = both (is_ascii_digit x) (is_digits xs) h in
    ap (λ b. (b || is_point x) && list_all (λ byte. is_ascii_digit byte || is_point byte) xs) e.0 ∙ digits_or_points xs e.1

whole_decimal : (text : List ℕ) → is_whole text ≡ true → is_decimal text ≡ true
whole_decimal text h =
    let e = both (nat_le 1 (length text)) (is_digits text) h in
    let all = digits_or_points text e.1 in
    let d = all_digits text e.1 in
    let none = digits_and_points text all in
    let p = length-filter is_point text in
    let some = leb-true 1 (length text) e.0 in
    decimal_of text true true true all (le-leb (count_by is_point text) 1 (omega (arith, d, none, p)))
    (sym (has_some is_ascii_digit text) ∙ le-leb 1 (length (filter is_ascii_digit text)) (omega (arith, d, some)))

-- a whole number without sign
pub whole_unsigned : (text : List ℕ) → is_whole text ≡ true → is_whole (without_sign text) ≡ true
whole_unsigned text h = ap is_whole (unsigned_digits text (both (nat_le 1 (length text)) (is_digits text) h).1) ∙ h

pub decimal_unsigned : (text : List ℕ) → is_whole text ≡ true → is_decimal (without_sign text) ≡ true
decimal_unsigned text h =
    ap is_decimal (unsigned_digits text (both (nat_le 1 (length text)) (is_digits text) h).1) ∙ whole_decimal text h

pub whole_length : (text : List ℕ) → is_whole text ≡ true → count_by is_ascii_digit text ≡ length text
whole_length text h = all_counted text (both (nat_le 1 (length text)) (is_digits text) h).1
