-- Tokens as they are written: none holds a space, and none but what divides components is a semicolon.
use Rattle.std.proofs.Common.{◌≡◌, ℕ, ◌+◌, ◌<◌, ◌≤◌, List, [], ◌∷◌, length, refl, ap, ◌∙◌, arith}
use Rattle.std.proofs.Common.{Bool, true, false, not, ◌&&◌, ◌==◌, nat_le, decimal, le-leb, leb-true}
use Rattle.std.specs.List.{All, list_all, join_with_byte}
use Rattle.std.specs.Char.{is_ascii_digit}
use Rattle.std.specs.Str.Parse.{AllDigits}
use Rattle.std.proofs.lemmas.Str.Parse.{digit_from_value}
use Rattle.std.proofs.lemmas.Fmt.{decimal_is_IsNumeral}
use Rattle.std.proofs.lemmas.Bool.Decides.{nat_tests}
use Rattle.std.proofs.lemmas.List.Elements.{All-nil, All-cons}
use Rattle.std.proofs.lemmas.List.Splits.{slice_split_none, slice_split_at}
use Rattle.guide_tree.specs.declared.element.ElementType.{ElementType}
use Rattle.guide_tree.specs.declared.element.ElementType.TheVariants as types
use Rattle.guide_tree.specs.declared.element.Requirement.{Requirement}
use Rattle.guide_tree.specs.declared.element.Requirement.TheVariants as requirement
use Rattle.guide_toml.specs.Tokens.{is_space, is_semicolon, is_code_byte, is_code, tokens_of}
use Rattle.guide_toml.specs.ElementTexts.{Tokens}
use Rattle.guide_toml.specs.Written as written
use Rattle.guide_toml.proofs.WrittenRows.{and_both}

abbrev pub is_solid : List ℕ → Bool
is_solid token = list_all (λ b. not (is_space b)) token

-- no space in it, and no semicolon
abbrev pub is_sound : List ℕ → Bool
is_sound token = is_solid token && not (is_semicolon token)

no_space : (b : ℕ) → is_code_byte b ≡ true → not (is_space b) ≡ true
no_space b h = grind (arith, nat_tests, h)

no_semicolon : (b : ℕ) → is_code_byte b ≡ true → (b == 59) ≡ false
no_semicolon b h = grind (arith, nat_tests, h)

solid : (t : List ℕ) → list_all is_code_byte t ≡ true → is_solid t ≡ true
solid [] h = refl
solid (b ∷ t) h =
    let both = and_both (is_code_byte b) (list_all is_code_byte t) h in
    rw (no_space b both.0) (solid t both.1)

pub sound : (t : List ℕ) → list_all is_code_byte t ≡ true → is_sound t ≡ true
sound [] h = refl
sound (b ∷ t) h =
    let both = and_both (is_code_byte b) (list_all is_code_byte t) h in
    rw (no_space b both.0, solid t both.1, no_semicolon b both.0) refl

digit_is_code : (b : ℕ) → is_ascii_digit b ≡ true → is_code_byte b ≡ true
digit_is_code b h = grind (arith, nat_tests, h)

digits_are_codes : (t : List ℕ) → list_all is_ascii_digit t ≡ true → list_all is_code_byte t ≡ true
digits_are_codes [] h = refl
digits_are_codes (b ∷ t) h =
    let both = and_both (is_ascii_digit b) (list_all is_ascii_digit t) h in
    rw (digit_is_code b both.0) (digits_are_codes t both.1)

numeral : (t : List ℕ) → AllDigits 10 t → list_all is_ascii_digit t ≡ true
numeral [] h = refl
numeral (b ∷ t) h =
    let range = digit_from_value b h.0 in
    let low = le-leb 48 b range.0 in
    let high = le-leb b 57 range.1 in
    rw (low, high) (numeral t h.1)

decimal_codes : (n : ℕ) → n ≤ 4294967295 → list_all is_code_byte (decimal n) ≡ true
decimal_codes n h = digits_are_codes (decimal n) (numeral (decimal n) (decimal_is_IsNumeral n (omega arith)).0.1)

pub decimal_sound : (n : ℕ) → n ≤ 4294967295 → is_sound (decimal n) ≡ true
decimal_sound n h = sound (decimal n) (decimal_codes n h)

pub repeat_sound : (n : ℕ) → n ≤ 4294967295 → is_sound (120 ∷ decimal n) ≡ true
repeat_sound n h = sound (120 ∷ decimal n) (decimal_codes n h)

pub reference_sound : (r : List ℕ) → written.is_reference r ≡ true → is_sound (written.reference_text r) ≡ true
reference_sound [] h = refl
reference_sound (d ∷ ds) h =
    sound (d ∷ ds) (digits_are_codes (d ∷ ds)
    (and_both (nat_le 1 (length (d ∷ ds)) && nat_le (length (d ∷ ds)) 4) (list_all is_ascii_digit (d ∷ ds)) h).1)

pub requirement_sound : (r : Requirement) → is_sound (written.requirement_text r) ≡ true
requirement_sound requirement.Mandatory = refl
requirement_sound requirement.Optional = refl

pub type_sound : (t : ElementType) → written.is_type t ≡ true → is_sound (written.type_text t) ≡ true
type_sound types.Text h = refl
type_sound types.Identifier h = refl
type_sound types.Decimal h = refl
type_sound types.Date h = refl
type_sound types.Time h = refl
type_sound (types.Number n) h =
    let small = leb-true n 9 h in
    let low = le-leb 48 (48 + n) (omega arith) in
    let high = le-leb (48 + n) 57 (omega arith) in
    let digit : is_ascii_digit (48 + n) ≡ true = rw (low, high) refl in
    sound (78 ∷ (48 + n) ∷ []) (rw (digit_is_code (48 + n) digit) refl)

pub code_sound : (t : List ℕ) → is_code t ≡ true → is_sound t ≡ true
code_sound t h = sound t (and_both (nat_le 1 (length t)) (list_all is_code_byte t) h).1

pub codes_sound : (ts : Tokens) → list_all is_code ts ≡ true → list_all is_sound ts ≡ true
codes_sound [] h = refl
codes_sound (t ∷ ts) h =
    let both = and_both (is_code t) (list_all is_code ts) h in
    rw (code_sound t both.0) (codes_sound ts both.1)

-- tokens without a space, with one between two of them, are those tokens
as_all : (t : List ℕ) → is_solid t ≡ true → All (λ b. is_space b ≡ false) t
as_all [] h = All-nil (λ b. is_space b ≡ false)
as_all (b ∷ t) h =
    let both = and_both (not (is_space b)) (is_solid t) h in
    All-cons (λ b. is_space b ≡ false) b t (was_false (is_space b) both.0) (as_all t both.1)
  where
    was_false : (b : Bool) → not b ≡ true → b ≡ false
    was_false true h = cc
    was_false false h = refl

pub tokens_back : (ts : Tokens) → 0 < length ts → list_all is_solid ts ≡ true → tokens_of (join_with_byte 32 ts) ≡ ts
tokens_back [] p h = absurd (omega (arith, p))
tokens_back (t ∷ []) p h = slice_split_none is_space t (as_all t (and_both (is_solid t) true h).0)
tokens_back (t ∷ u ∷ ts) p h =
    let both = and_both (is_solid t) (list_all is_solid (u ∷ ts)) h in
    slice_split_at is_space t 32 (join_with_byte 32 (u ∷ ts)) (as_all t both.0) refl
    ∙ ap (λ r. t ∷ r) (tokens_back (u ∷ ts) (omega arith) both.1)
