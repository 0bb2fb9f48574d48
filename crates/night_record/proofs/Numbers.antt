-- X12.6, data element type N0: a number is read from the digits that are written of it.
use Rattle.std.proofs.Common.{◌≡◌, ℕ, ◌+◌, ◌-◌, ◌*◌, ◌%◌, ◌^◌, ◌<◌, ◌≤◌, Bool, true, ◌&&◌, nat_le, leb, List, [], ◌∷◌}
use Rattle.std.proofs.Common.{length, Some, None, cond, ap, ◌∙◌, arith, refl}
use Rattle.std.specs.Prelude.{decimal}
use Rattle.std.specs.List.{list_all}
use Rattle.std.specs.Char.{is_ascii_digit}
use Rattle.std.proofs.lemmas.Bool.{and_from, le-leb}
use Rattle.std.proofs.lemmas.Fmt.{decimal_by_steps, decimal_nonempty, length-decimal-le}
use Rattle.std.proofs.lemmas.List.Folds.{list_all-append}
use Rattle.std.proofs.lemmas.List.Sums.{fold-append}
use Rattle.hub_kinds.specs.Numbers.{is_number, number_of, value_of}

digit_read : (k : ℕ) → k < 10 → is_ascii_digit (48 + k) ≡ true
digit_read k small =
    let low = le-leb 48 (48 + k) (omega arith) in
    let high = le-leb (48 + k) 57 (omega arith) in
    and_from (leb 48 (48 + k)) (leb (48 + k) 57) low high

abbrev pub IsWrittenNumber : ℕ → List ℕ → Type 0
IsWrittenNumber n text = (list_all is_ascii_digit text ≡ true) × (value_of text ≡ n)

abbrev onto : ℕ → ℕ → ℕ
onto n digit = 10 * n + (digit - 48)

pub decimal_written : (n : ℕ) → n < 2 ^ 64 → IsWrittenNumber n (decimal n)
decimal_written = decimal_by_steps IsWrittenNumber
    (λ n small. (and_from (is_ascii_digit (48 + n)) true (digit_read n small) refl, omega arith)) (λ n ds large so. (
      list_all-append is_ascii_digit ds ((48 + n % 10) ∷ [])
          ∙ and_from (list_all is_ascii_digit ds) (list_all is_ascii_digit ((48 + n % 10) ∷ [])) so.0
          (and_from (is_ascii_digit (48 + n % 10)) true (digit_read (n % 10) (omega arith)) refl),
      fold-append onto 0 ds ((48 + n % 10) ∷ []) ∙ ap (λ m. onto m (48 + n % 10)) so.1 ∙ omega arith,
    ))

number_written : (most n : ℕ) (text : List ℕ) → 1 ≤ length text → length text ≤ most → IsWrittenNumber n text
    → number_of most text ≡ Some n
number_written most n text low high so =
    let is : is_number most text ≡ true = and_from (nat_le 1 (length text) && nat_le (length text) most) (list_all is_ascii_digit text)
    (and_from (nat_le 1 (length text)) (nat_le (length text) most) (le-leb 1 (length text) low) (le-leb (length text) most high))
    so.0 in
    ap (λ (b : Bool). cond b (Some (value_of text)) None) is ∙ ap Some so.1

-- a number of at most nine digits
pub nine_read : (n : ℕ) → n ≤ 999999999 → number_of 9 (decimal n) ≡ Some n
nine_read n small =
    number_written 9 n (decimal n) (omega (arith, decimal_nonempty n (omega arith)))
    (length-decimal-le 9 n (omega arith) (omega arith) (omega arith)) (decimal_written n (omega arith))
