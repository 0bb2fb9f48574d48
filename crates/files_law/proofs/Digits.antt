-- X12.6, data element type N0: numbers, read from the digits that are written.
use Rattle.std.proofs.Common.{◌≡◌, ℕ, zero, suc, ◌+◌, ◌-◌, ◌*◌, ◌%◌, ◌^◌, ◌<◌, ◌≤◌, Bool, true, false, ◌&&◌, nat_le, leb, List, [], ◌∷◌}
use Rattle.std.proofs.Common.{◌++◌}
use Rattle.std.proofs.Common.{length, Some, None, cond, refl, ap, ◌∙◌, arith, length-append}
use Rattle.std.specs.Prelude.{◌||◌, decimal, replicate}
use Rattle.std.specs.List.{list_all}
use Rattle.std.specs.Char.{is_ascii_alphanumeric, is_ascii_digit}
use Rattle.std.proofs.lemmas.Bool.{and_from, and_parts, le-leb}
use Rattle.std.proofs.lemmas.Fmt.{decimal_by_steps, decimal_nonempty, length-decimal-le}
use Rattle.std.proofs.lemmas.List.{length-replicate}
use Rattle.std.proofs.lemmas.List.Folds.{list_all-append}
use Rattle.std.proofs.lemmas.List.Sums.{fold-append}
use Rattle.hub_kinds.specs.Words.{is_number, number_of, value_of, is_word}
use Rattle.x12_write.specs.Number.{padded_number, set_number}

digit_read : (k : ℕ) → k < 10 → is_ascii_digit (48 + k) ≡ true
digit_read k small =
    let low = le-leb 48 (48 + k) (omega arith) in
    let high = le-leb (48 + k) 57 (omega arith) in
    and_from (leb 48 (48 + k)) (leb (48 + k) 57) low high

abbrev IsWrittenNumber : ℕ → List ℕ → Type 0
IsWrittenNumber n text = (list_all is_ascii_digit text ≡ true) × (value_of text ≡ n)

abbrev onto : ℕ → ℕ → ℕ
onto n digit = 10 * n + (digit - 48)

decimal_written : (n : ℕ) → n < 2 ^ 64 → IsWrittenNumber n (decimal n)
decimal_written = decimal_by_steps IsWrittenNumber
    (λ n small. (and_from (is_ascii_digit (48 + n)) true (digit_read n small) refl, omega arith)) (λ n ds large so. (
      list_all-append is_ascii_digit ds ((48 + n % 10) ∷ [])
          ∙ and_from (list_all is_ascii_digit ds) (list_all is_ascii_digit ((48 + n % 10) ∷ [])) so.0
          (and_from (is_ascii_digit (48 + n % 10)) true (digit_read (n % 10) (omega arith)) refl),
      fold-append onto 0 ds ((48 + n % 10) ∷ []) ∙ ap (λ m. onto m (48 + n % 10)) so.1 ∙ omega arith,
    ))

zeros_written : (k : ℕ) (text : List ℕ) (n : ℕ) → IsWrittenNumber n text → IsWrittenNumber n (replicate k 48 ++ text)
zeros_written zero text n so = so
zeros_written (suc k) text n so = zeros_written k text n so

padded_written : (least n : ℕ) → n < 2 ^ 64 → IsWrittenNumber n (padded_number least n)
padded_written least n fits = zeros_written (least - length (decimal n)) (decimal n) n (decimal_written n fits)

padded_length : (least n : ℕ) → length (decimal n) ≤ least → length (padded_number least n) ≡ least
padded_length least n short = omega (
  arith,
  short,
  length-append (replicate (least - length (decimal n)) 48) (decimal n),
  length-replicate {A = ℕ} (least - length (decimal n)) 48,
)

number_written : (most n : ℕ) (text : List ℕ) → 1 ≤ length text → length text ≤ most → IsWrittenNumber n text
    → (is_number most text ≡ true) × (number_of most text ≡ Some n)
number_written most n text low high so =
    let is : is_number most text ≡ true = and_from (nat_le 1 (length text) && nat_le (length text) most) (list_all is_ascii_digit text)
    (and_from (nat_le 1 (length text)) (nat_le (length text) most) (le-leb 1 (length text) low) (le-leb (length text) most high))
    so.0 in
    (is, ap (λ (b : Bool). cond b (Some (value_of text)) None) is ∙ ap Some so.1)

pub decimal_read : (most n : ℕ) → 0 < most → n < 10 ^ most → n < 2 ^ 64
    → (is_number most (decimal n) ≡ true) × (number_of most (decimal n) ≡ Some n)
decimal_read most n some small fits = number_written most n (decimal n) (omega (arith, decimal_nonempty n fits))
    (length-decimal-le most n some small fits) (decimal_written n fits)

-- ISA13 and IEA02
pub nine_read : (n : ℕ) → n ≤ 999999999 → (length (padded_number 9 n) ≡ 9) × (number_of 9 (padded_number 9 n) ≡ Some n)
nine_read n most =
    let short = length-decimal-le 9 n (omega arith) (omega arith) (omega arith) in
    let long : length (padded_number 9 n) ≡ 9 = padded_length 9 n short in
    (long, (number_written 9 n (padded_number 9 n) (omega (arith, long)) (omega (arith, long)) (padded_written 9 n (omega arith))).1)

alike : (a b c : Bool) → a ≡ true → (a || b || c) ≡ true
alike true b c is = refl
alike false b c is = cc

all_alike : (text : List ℕ) → list_all is_ascii_digit text ≡ true → list_all is_ascii_alphanumeric text ≡ true
all_alike [] all = refl
all_alike (b ∷ text) all =
    let both = and_parts (is_ascii_digit b) (list_all is_ascii_digit text) all in
    and_from (is_ascii_alphanumeric b) (list_all is_ascii_alphanumeric text) (alike (is_ascii_digit b) _ _ both.0) (all_alike text both.1)

-- ST02
pub padded_word : (n : ℕ) → n ≤ 999999999 → is_word 1 9 (set_number n) ≡ true
padded_word n small =
    let text : List ℕ = set_number n in
    let short = length-decimal-le 9 n (omega arith) (omega arith) (omega arith) in
    let some = decimal_nonempty n (omega arith) in
    let front = length-append (replicate (4 - length (decimal n)) 48) (decimal n) in
    let zeros = length-replicate {A = ℕ} (4 - length (decimal n)) 48 in
    let low : 1 ≤ length text = omega arith in
    let high : length text ≤ 9 = omega arith in
    and_from (nat_le 1 (length text) && nat_le (length text) 9) (list_all is_ascii_alphanumeric text)
    (and_from (nat_le 1 (length text)) (nat_le (length text) 9) (le-leb 1 (length text) low) (le-leb (length text) 9 high))
    (all_alike text (padded_written 4 n (omega arith)).0)
