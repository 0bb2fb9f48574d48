-- The next header of a text: none begins where the letter I doesn't stand.
use Rattle.std.proofs.Common.{◌≡◌, ℕ, ◌+◌, ◌-◌, ◌<◌, ◌≤◌, List, true, false, nat_eq, length, get_or, inl, inr, refl, sym}
use Rattle.std.proofs.Common.{ap, subst, ◌∙◌, arith}
use Rattle.std.specs.Prelude.{slice_range}
use Rattle.std.proofs.lemmas.Bool.{false_from_ne_true}
use Rattle.std.proofs.lemmas.Bool.Decides.{leb_tells}
use Rattle.std.proofs.lemmas.List.{get_or-drop, length-drop, take_rest}
use Rattle.memchr.specs.Find.{Nowhere, Passes, is_byte}
use Rattle.x12_bytes.specs.HeaderTest.{is_head}
use Rattle.env_index.proofs.Surround.{head_letter}

-- after an offset, up to which no letter I stands
pub no_head_ahead : (text : List ℕ) (at ahead q : ℕ) → Nowhere (Passes (is_byte 73) (slice_range text at (length text))) 0 ahead
    → at ≤ q → q < at + ahead → is_head text q ≡ false
no_head_ahead text at ahead q nowhere low high =
    let place : at + (q - at) ≡ q = omega arith in
    let near : 0 ≤ q - at = omega arith in
    let below : q - at < ahead = omega arith in
    let passed : Passes (is_byte 73) (slice_range text at (length text)) (q - at) → ⊥ = nowhere (q - at) near below in
    false_from_ne_true (is_head text q) (λ is.
    let there : get_or (slice_range text at (length text)) (q - at) 0 ≡ 73
    = ap (λ (xs : List ℕ). get_or xs (q - at) 0) (take_rest text at) ∙ get_or-drop at text (q - at) 0
    ∙ ap (λ (k : ℕ). get_or text k 0) place ∙ head_letter text q is in
    passed (subst (λ (n : ℕ). nat_eq n 73 ≡ true) (sym there) refl))

-- nor before it
pub no_head_between : (text : List ℕ) (from at ahead : ℕ) → ((q : ℕ) → from ≤ q → q < at → is_head text q ≡ false)
    → Nowhere (Passes (is_byte 73) (slice_range text at (length text))) 0 ahead
    → (q : ℕ) → from ≤ q → q < at + ahead → is_head text q ≡ false
no_head_between text from at ahead before nowhere q low high = elim (leb_tells at q) [
  | inl w ↦ no_head_ahead text at ahead q nowhere w.1 high
  | inr w ↦ before q low (omega (arith, w))
]

-- up to an offset, and not there
pub no_head_up_to : (text : List ℕ) (from at : ℕ) → ((q : ℕ) → from ≤ q → q < at → is_head text q ≡ false) → is_head text at ≡ false
    → (q : ℕ) → from ≤ q → q < at + 1 → is_head text q ≡ false
no_head_up_to text from at before here q low high = elim (leb_tells at q) [
  | inl w ↦ let same : at ≡ q = omega (arith, w) in subst (λ (n : ℕ). is_head text n ≡ false) same here
  | inr w ↦ before q low w.1
]

pub rest_length : (text : List ℕ) (at : ℕ) → length (slice_range text at (length text)) ≡ length text - at
rest_length text at = ap (λ (xs : List ℕ). length xs) (take_rest text at) ∙ length-drop at text
