-- A number as it is written, read back.
use Rattle.std.proofs.Common.{◌≡◌, ℕ, ◌+◌, ◌-◌, ◌*◌, ◌<◌, ◌≤◌, List, [], ◌∷◌, length, Some, refl, ap, ◌∙◌, arith, true}
use Rattle.std.proofs.Common.{nat_le, decimal}
use Rattle.std.specs.Char.{digit_value, is_ascii_digit}
use Rattle.std.specs.Str.Parse.{AllDigits, digits_value_after}
use Rattle.std.proofs.lemmas.Str.{digit_value_digit}
use Rattle.std.proofs.lemmas.Str.Parse.{digit_from_value}
use Rattle.std.proofs.lemmas.Fmt.{decimal_is_IsNumeral}
use Rattle.std.proofs.lemmas.Bool.{le-leb}
use Rattle.guide_toml.specs.Counts.{count_from, count_of}

grows : (n : ℕ) (ds : List ℕ) → n ≤ digits_value_after 10 n ds
grows n [] = omega arith
grows n (d ∷ ds) = let more = grows (n * 10 + digit_value d) ds in omega arith

one_more : (n d : ℕ) (ds : List ℕ) (digit : is_ascii_digit d ≡ true) (small : nat_le (10 * n + (d - 48)) 4294967295 ≡ true)
    → count_from n (d ∷ ds) ≡ count_from (10 * n + (d - 48)) ds
one_more n d ds digit small = rw (digit, small) refl

counted : (n : ℕ) (ds : List ℕ) → AllDigits 10 ds → digits_value_after 10 n ds ≤ 4294967295
    → count_from n ds ≡ Some (digits_value_after 10 n ds)
counted n [] digits small = refl
counted n (d ∷ ds) digits small =
    let range = digit_from_value d digits.0 in
    let value = digit_value_digit d range in
    let same : 10 * n + (d - 48) ≡ n * 10 + digit_value d = omega arith in
    let more = grows (n * 10 + digit_value d) ds in
    let low = le-leb 48 d range.0 in
    let high = le-leb d 57 range.1 in
    let digit : is_ascii_digit d ≡ true = rw (low, high) refl in
    one_more n d ds digit (le-leb (10 * n + (d - 48)) 4294967295 (omega arith))
    ∙ ap (λ m. count_from m ds) same ∙ counted (n * 10 + digit_value d) ds digits.1 small

some_digits : (ds : List ℕ) → 0 < length ds → count_of ds ≡ count_from 0 ds
some_digits [] h = absurd (omega (arith, h))
some_digits (d ∷ ds) h = refl

pub count_of-decimal : (n : ℕ) → n ≤ 4294967295 → count_of (decimal n) ≡ Some n
count_of-decimal n small =
    let numeral = decimal_is_IsNumeral n (omega arith) in
    let value = numeral.1 in
    some_digits (decimal n) numeral.0.0
    ∙ counted 0 (decimal n) numeral.0.1 (omega arith)
    ∙ ap (λ m. Some m) value
