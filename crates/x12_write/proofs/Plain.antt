-- Texts of letters and digits, which hold no delimiter.
use Rattle.std.proofs.Common.{◌≡◌, ◌≢◌, ℕ, ◌+◌, ◌-◌, ◌<◌, ◌/◌, ◌%◌, Bool, true, false, List, [], ◌∷◌, ◌++◌, length, refl, ap, ◌∙◌, arith}
use Rattle.std.proofs.Common.{zero, suc}
use Rattle.std.specs.Prelude.{decimal, replicate, ◌==◌, ◌&&◌, if◌then◌else◌}
use Rattle.std.specs.List.{list_all}
use Rattle.std.specs.Char.{is_ascii_alphanumeric}
use Rattle.std.specs.Fmt.{digits, digits_onto, digit_glyph}
use Rattle.std.proofs.lemmas.Bool.{le-leb, lt-ltb}
use Rattle.std.proofs.lemmas.Grind.{common_steps}
use Rattle.std.proofs.lemmas.List.Folds.{list_all-append}
use Rattle.std.proofs.lemmas.List.Elements.{All-nil, All-cons}
use Rattle.x12_bytes.specs.declared.delims.Delims.{Delims}
use Rattle.x12_write.specs.Number.{padded_number, set_number}
use Rattle.x12_write.specs.Undivided.{CanDivide, IsUndivided}

-- letters and digits alone
abbrev pub is_plain : List ℕ → Bool
is_plain text = list_all is_ascii_alphanumeric text

pub both : (a b : Bool) → (a && b) ≡ true → (a ≡ true) × (b ≡ true)
both true b h = (refl, h)
both false b h = cc

-- they hold no delimiter
pub plain-undivided : (d : Delims) → CanDivide d → (text : List ℕ) → is_plain text ≡ true → IsUndivided d text
plain-undivided d can [] h = All-nil (λ b. (b ≢ d.element) × (b ≢ d.terminator))
plain-undivided d can (b ∷ bs) h =
    let parts = both (is_ascii_alphanumeric b) (is_plain bs) h in
    let one : (b ≢ d.element) × (b ≢ d.terminator) = (
      λ e. let same = ap is_ascii_alphanumeric e in cc (same, parts.0, can.element),
      λ e. let same = ap is_ascii_alphanumeric e in cc (same, parts.0, can.terminator),
    ) in
    All-cons (λ b. (b ≢ d.element) × (b ≢ d.terminator)) b bs one (plain-undivided d can bs parts.1)

plain-append : (xs ys : List ℕ) → is_plain xs ≡ true → is_plain ys ≡ true → is_plain (xs ++ ys) ≡ true
plain-append xs ys p q = list_all-append is_ascii_alphanumeric xs ys ∙ grind (arith, common_steps)

plain-zeros : (n : ℕ) → is_plain (replicate n 48) ≡ true
plain-zeros zero = refl
plain-zeros (suc n) = plain-zeros n

plain-digit : (n : ℕ) → n < 10 → is_ascii_alphanumeric (digit_glyph false n) ≡ true
plain-digit n small =
    let glyph : digit_glyph false n ≡ 48 + n = rw (lt-ltb n 10 small) refl in
    let low = le-leb 48 (48 + n) (omega arith) in
    let high = le-leb (48 + n) 57 (omega arith) in
    ap is_ascii_alphanumeric glyph ∙ rw (low, high) refl

plain-either : (b : Bool) (xs ys : List ℕ) → is_plain xs ≡ true → is_plain ys ≡ true
    → is_plain (if b then xs else ys) ≡ true
plain-either true xs ys p q = p
plain-either false xs ys p q = q

-- the digits of any number, before a plain text
plain-onto : (k n : ℕ) (behind : List ℕ) → is_plain behind ≡ true → is_plain (digits_onto k 10 false n behind) ≡ true
plain-onto zero n behind plain = plain
plain-onto (suc k) n behind plain =
    let more : List ℕ = digit_glyph false (n % 10) ∷ behind in
    let one : is_plain more ≡ true = ap (λ (b : Bool). b && is_plain behind) (plain-digit (n % 10) (omega arith)) ∙ plain in
    plain-either (n / 10 == 0) more (digits_onto k 10 false (n / 10) more) one (plain-onto k (n / 10) more one)

plain-decimal : (n : ℕ) → is_plain (decimal n) ≡ true
unfolding digits
plain-decimal n = plain-onto 64 n [] refl

plain-padded_number : (least n : ℕ) → is_plain (padded_number least n) ≡ true
plain-padded_number least n =
    plain-append (replicate (least - length (decimal n)) 48) (decimal n) (plain-zeros (least - length (decimal n))) (plain-decimal n)

pub decimal-undivided : (d : Delims) → CanDivide d → (n : ℕ) → IsUndivided d (decimal n)
decimal-undivided d can n = plain-undivided d can (decimal n) (plain-decimal n)

pub padded_number-undivided : (d : Delims) → CanDivide d → (least n : ℕ) → IsUndivided d (padded_number least n)
padded_number-undivided d can least n = plain-undivided d can (padded_number least n) (plain-padded_number least n)

pub set_number-undivided : (d : Delims) → CanDivide d → (n : ℕ) → IsUndivided d (set_number n)
set_number-undivided d can n = padded_number-undivided d can 4 n
