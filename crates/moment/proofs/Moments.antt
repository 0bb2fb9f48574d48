-- Twelve digits are a moment exactly where the first eight are a date and the last four a time.
use Rattle.std.proofs.Common.{◌≡◌, ℕ, ◌+◌, ◌<◌, ◌≤◌, ◌∙◌, List, Bool, true, false, length, take, drop, refl, ap, sym, subst, arith}
use Rattle.std.specs.Prelude.{◌&&◌, ◌||◌, ◌==◌, nat_le}
use Rattle.std.specs.Bool.{Decides}
use Rattle.std.specs.List.{All}
use Rattle.std.specs.Char.{IsAsciiDigit, is_ascii_digit}
use Rattle.std.proofs.lemmas.Bool.Decides.{nat_tests, Decides-by_and}
use Rattle.std.proofs.lemmas.Bool.{leb-true, le-leb, eq-eqb, eqb-true}
use Rattle.std.specs.Cmp.Derive.{both_true}
use Rattle.std.proofs.lemmas.List.{get_or-take, get_or-drop, take-append-drop, length-take-le, length-drop}
use Rattle.std.proofs.lemmas.List.Folds.{list_all-append}
use Rattle.moment.specs.Moment.{IsMoment, IsDay, pair_at, year_of}
use Rattle.moment.specs.Calendar.{is_digits, is_day, is_long_date, is_short_date, is_date, is_time, is_moment}
use Rattle.moment.proofs.Both.{both}

either : (a b : Bool) → b ≡ false → (a || b) ≡ true → a ≡ true
either true b f h = refl
either false b f h = cc

or_left : (a b : Bool) → a ≡ true → (a || b) ≡ true
or_left true b h = refl
or_left false b h = cc

pair-take : (n place : ℕ) (text : List ℕ) → place + 1 < n → pair_at (take n text) place ≡ pair_at text place
pair-take n place text h =
    let a = get_or-take n text place 0 (omega arith) in
    let b = get_or-take n text (place + 1) 0 h in
    cc

pair-drop : (n place : ℕ) (text : List ℕ) → pair_at (drop n text) place ≡ pair_at text (n + place)
pair-drop n place text =
    let a = get_or-drop n text place 0 in
    let b = get_or-drop n text (place + 1) 0 in
    let e : n + (place + 1) ≡ n + place + 1 = omega arith in
    cc

pub digits_decided : (text : List ℕ) → Decides (is_digits text) (All IsAsciiDigit text)
digits_decided text = Decides-by_and is_ascii_digit IsAsciiDigit is_digits
    (λ x. (λ h. grind (arith, nat_tests), λ h. grind (arith, nat_tests))) refl (λ _ _. refl) text

digits-divided : (n : ℕ) (text : List ℕ) → is_digits text ≡ (is_digits (take n text) && is_digits (drop n text))
digits-divided n text = ap is_digits (sym (take-append-drop n text)) ∙ list_all-append is_ascii_digit (take n text) (drop n text)

day_from : (year month day : ℕ) → is_day year month day ≡ true → IsDay year month day
day_from year month day h = record {
  month_from = grind (arith, nat_tests);
  month_to = grind (arith, nat_tests);
  day_from =
      grind (arith, nat_tests);
  day_to = grind (arith, nat_tests);
}

day_to : (year month day : ℕ) → IsDay year month day → is_day year month day ≡ true
day_to year month day h = grind (arith, nat_tests)

day-same : (y y' m m' d d' : ℕ) → y ≡ y' → m ≡ m' → d ≡ d' → IsDay y m d → IsDay y' m' d'
day-same y y' m m' d d' a b c h = subst (λ x. IsDay y' m' x) c (subst (λ x. IsDay y' x d) b (subst (λ x. IsDay x m d) a h))

year-take : (text : List ℕ) → year_of (take 8 text) ≡ year_of text
year-take text = let a = pair-take 8 0 text (omega arith) in let b = pair-take 8 2 text (omega arith) in cc

pub moment_from : (text : List ℕ) → is_moment text ≡ true → IsMoment text
moment_from text h =
    let a = both ((length text == 12) && is_date (take 8 text)) (is_time (drop 8 text)) h in
    let b = both (length text == 12) (is_date (take 8 text)) a.0 in
    let len : length text ≡ 12 = eqb-true (length text) 12 b.0 in
    let front : length (take 8 text) ≡ 8 = length-take-le 8 text (omega arith) in
    let d = both (is_digits (take 8 text)) (is_long_date (take 8 text) || is_short_date (take 8 text)) b.1 in
    let short : is_short_date (take 8 text) ≡ false = rw front refl in
    let long = either (is_long_date (take 8 text)) (is_short_date (take 8 text)) short d.1 in
    let f = both ((length (take 8 text) == 8) && nat_le 1 (year_of (take 8 text)))
    (is_day (year_of (take 8 text)) (pair_at (take 8 text) 4) (pair_at (take 8 text) 6)) long in
    let g = both (length (take 8 text) == 8) (nat_le 1 (year_of (take 8 text))) f.0 in
    let t = both ((is_digits (drop 8 text) &&
    ((length (drop 8 text) == 4) ||
    ((nat_le 6 (length (drop 8 text)) && nat_le (length (drop 8 text)) 8) && nat_le (pair_at (drop 8 text) 4) 59)))
    && nat_le (pair_at (drop 8 text) 0) 23) (nat_le (pair_at (drop 8 text) 2) 59) a.1 in
    let u = both (is_digits (drop 8 text) && ((length (drop 8 text) == 4)
    || ((nat_le 6 (length (drop 8 text)) && nat_le (length (drop 8 text)) 8) && nat_le (pair_at (drop 8 text) 4) 59)))
    (nat_le (pair_at (drop 8 text) 0) 23) t.0 in
    let v = both (is_digits (drop 8 text)) ((length (drop 8 text) == 4)
    || ((nat_le 6 (length (drop 8 text)) && nat_le (length (drop 8 text)) 8) && nat_le (pair_at (drop 8 text) 4) 59)) u.0 in
    let digits : is_digits text ≡ true = digits-divided 8 text ∙ both_true d.0 v.0 in
    let year = year-take text in
    let y1 : 1 ≤ year_of (take 8 text) = leb-true 1 (year_of (take 8 text)) g.1 in
    let hours : pair_at (drop 8 text) 0 ≤ 23 = leb-true (pair_at (drop 8 text) 0) 23 u.1 in
    let minutes : pair_at (drop 8 text) 2 ≤ 59 = leb-true (pair_at (drop 8 text) 2) 59 t.1 in
    record {
      len = len;
      digits = (digits_decided text).0 digits;
      year = subst (λ y. 1 ≤ y) year y1;
      day = day-same _ _ _ _ _ _ year (pair-take 8 4 text (omega arith)) (pair-take 8 6 text (omega arith)) (day_from _ _ _ f.1);
      hour = subst (λ y. y ≤ 23) (pair-drop 8 0 text) hours;
      minute = subst (λ y. y ≤ 59) (pair-drop 8 2 text) minutes;
    }

pub moment_to : (text : List ℕ) → IsMoment text → is_moment text ≡ true
moment_to text h =
    let front : length (take 8 text) ≡ 8 = length-take-le 8 text (omega (arith, h.len)) in
    let back : length (drop 8 text) ≡ 4 = length-drop 8 text ∙ omega (arith, h.len) in
    let digits : (is_digits (take 8 text) && is_digits (drop 8 text)) ≡ true = sym (digits-divided 8 text)
    ∙ (digits_decided text).1 h.digits in
    let d = both (is_digits (take 8 text)) (is_digits (drop 8 text)) digits in
    let len : (length text == 12) ≡ true = eq-eqb (length text) 12 h.len in
    let l8 : (length (take 8 text) == 8) ≡ true = eq-eqb (length (take 8 text)) 8 front in
    let l4 : (length (drop 8 text) == 4) ≡ true = eq-eqb (length (drop 8 text)) 4 back in
    let year : nat_le 1 (year_of (take 8 text)) ≡ true = rw year-take (le-leb 1 (year_of text) h.year) in
    let day : is_day (year_of (take 8 text)) (pair_at (take 8 text) 4) (pair_at (take 8 text) 6) ≡ true =
    day_to _ _ _ (day-same _ _ _ _ _ _ (sym (year-take text)) (sym (pair-take 8 4 text (omega arith)))
    (sym (pair-take 8 6 text (omega arith))) h.day) in
    let hours : nat_le (pair_at (drop 8 text) 0) 23 ≡ true =
    subst (λ y. nat_le y 23 ≡ true) (sym (pair-drop 8 0 text)) (le-leb (pair_at text 8) 23 h.hour) in
    let minutes : nat_le (pair_at (drop 8 text) 2) 59 ≡ true =
    subst (λ y. nat_le y 59 ≡ true) (sym (pair-drop 8 2 text)) (le-leb (pair_at text 10) 59 h.minute) in
    both_true (both_true len (both_true d.0 (or_left _ _ (both_true (both_true l8 year) day))))
    (both_true (both_true (both_true d.1 (or_left _ _ l4)) hours) minutes)

-- where the length and the date are as they should be, the time decides
pub dated : (text : List ℕ) → length text ≡ 12 → is_date (take 8 text) ≡ true → is_moment text ≡ is_time (drop 8 text)
dated text len date = ap (λ b. (b && is_date (take 8 text)) && is_time (drop 8 text)) (eq-eqb (length text) 12 len)
    ∙ ap (λ b. (true && b) && is_time (drop 8 text)) date
