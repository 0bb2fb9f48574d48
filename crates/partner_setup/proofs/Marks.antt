-- Delimiters that are allowed, and the texts that hold none of them.
use Rattle.std.proofs.Common.{◌≡◌, ◌≢◌, ℕ, ◌<◌, Bool, true, false, not, ◌&&◌, ◌||◌, ◌==◌, nat_le, List, [], ◌∷◌, All, inl, inr}
use Rattle.std.proofs.Common.{refl, sym, ap, ◌∙◌, arith}
use Rattle.std.specs.List.{list_all}
use Rattle.std.specs.Char.{is_ascii_alphanumeric}
use Rattle.std.proofs.lemmas.Bool.{and_parts, agree_below, agree_below_at, eqb-true, leb-true, not-true, or_cases, or_left}
use Rattle.std.proofs.lemmas.List.Elements.{All-nil, All-cons}
use Rattle.x12_bytes.specs.Bytes.{may_separate, may_terminate}
use Rattle.partner_setup.specs.SetupFaults.{are_apart, are_delimiters, is_inner, is_name_byte, may_delimit, may_end}

small_separator : (b : ℕ) → may_delimit b ≡ true → b < 127
small_separator b e = elim (or_cases (nat_le 28 b && nat_le b 31) (nat_le 33 b && nat_le b 126 && not (is_name_byte b)) e) [
  | inl low ↦ let l = leb-true b 31 (and_parts (nat_le 28 b) (nat_le b 31) low).1 in omega (arith, l)
  | inr high ↦
      let range = (and_parts (nat_le 33 b && nat_le b 126) (not (is_name_byte b)) high).0 in
      let l = leb-true b 126 (and_parts (nat_le 33 b) (nat_le b 126) range).1 in
      omega (arith, l)
]

small_end : (b : ℕ) → may_end b ≡ true → b < 127
small_end b e = elim (or_cases (may_delimit b || b == 13) (b == 10) e) [
  | inl other ↦ elim (or_cases (may_delimit b) (b == 13) other) [
    | inl separates ↦ small_separator b separates
    | inr return ↦ let is = eqb-true b 13 return in omega (arith, is)
  ]
  | inr feed ↦ let is = eqb-true b 10 feed in omega (arith, is)
]

implied : (p q : ℕ → Bool) → agree_below p (λ b. p b && q b) 127 ≡ true → (b : ℕ) → b < 127 → p b ≡ true → q b ≡ true
implied p q table b small e = (and_parts (p b) (q b) (sym (agree_below_at p (λ b. p b && q b) 127 b table small) ∙ e)).1

pub separates : (b : ℕ) → may_delimit b ≡ true → may_separate b ≡ true
separates b e = implied may_delimit may_separate refl b (small_separator b e) e

pub terminates : (b : ℕ) → may_end b ≡ true → may_terminate b ≡ true
terminates b e = implied may_end may_terminate refl b (small_end b e) e

pub ends : (b : ℕ) → may_delimit b ≡ true → may_end b ≡ true
ends b e = or_left (may_delimit b || b == 13) (b == 10) (or_left (may_delimit b) (b == 13) e)

not_inner : (b : ℕ) → may_end b ≡ true → is_inner b ≡ false
not_inner b e = not-true (is_inner b) (implied may_end (λ b. not (is_inner b)) refl b (small_end b e) e)

pub no_letter : (b : ℕ) → may_end b ≡ true → is_ascii_alphanumeric b ≡ false
no_letter b e = not-true (is_ascii_alphanumeric b) (implied may_end (λ b. not (is_ascii_alphanumeric b)) refl b (small_end b e) e)

-- a text of names and spaces holds no delimiter
pub undivided : (e t : ℕ) → may_end e ≡ true → may_end t ≡ true → (text : List ℕ) → list_all is_inner text ≡ true
    → All (λ b. (b ≢ e) × (b ≢ t)) text
undivided e t pe pt [] h = All-nil (λ b. (b ≢ e) × (b ≢ t))
undivided e t pe pt (b ∷ bs) h =
    let parts = and_parts (is_inner b) (list_all is_inner bs) h in
    let ne = not_inner e pe in
    let nt = not_inner t pt in
    let one : (b ≢ e) × (b ≢ t) = (
      λ same. let alike = ap is_inner same in cc (alike, parts.0, ne),
      λ same. let alike = ap is_inner same in cc (alike, parts.0, nt),
    ) in
    All-cons (λ b. (b ≢ e) × (b ≢ t)) b bs one (undivided e t pe pt bs parts.1)

letters_inside : (b : ℕ) → is_ascii_alphanumeric b ≡ true → is_inner b ≡ true
letters_inside b e = or_left (is_name_byte b) (b == 32)
    (or_left (is_ascii_alphanumeric b || b == 45 || b == 46) (b == 95)
    (or_left (is_ascii_alphanumeric b || b == 45) (b == 46) (or_left (is_ascii_alphanumeric b) (b == 45) e)))

pub word_inside : (text : List ℕ) → list_all is_ascii_alphanumeric text ≡ true → list_all is_inner text ≡ true
word_inside [] h = refl
word_inside (b ∷ bs) h =
    let parts = and_parts (is_ascii_alphanumeric b) (list_all is_ascii_alphanumeric bs) h in
    ap (λ (x : Bool). x && list_all is_inner bs) (letters_inside b parts.0) ∙ word_inside bs parts.1

-- what four delimiters are
pub record Four (e c r t : ℕ) : Type 0 where
  pub element : may_delimit e ≡ true
  pub component : may_delimit c ≡ true
  pub repetition : may_delimit r ≡ true
  pub terminator : may_end t ≡ true
  pub element_component : (e == c) ≡ false
  pub element_repetition : (e == r) ≡ false
  pub element_terminator : (e == t) ≡ false
  pub component_repetition : (c == r) ≡ false
  pub component_terminator : (c == t) ≡ false
  pub repetition_terminator : (r == t) ≡ false

pub four : (e c r t : ℕ) → are_delimiters e c r t ≡ true → Four e c r t
four e c r t h =
    let a = and_parts (may_delimit e && may_delimit c && may_delimit r && may_end t) (are_apart e c r t) h in
    let b = and_parts (may_delimit e && may_delimit c && may_delimit r) (may_end t) a.0 in
    let f = and_parts (may_delimit e && may_delimit c) (may_delimit r) b.0 in
    let g = and_parts (may_delimit e) (may_delimit c) f.0 in
    let p = and_parts (not (e == c) && not (e == r) && not (e == t) && not (c == r) && not (c == t)) (not (r == t)) a.1 in
    let q = and_parts (not (e == c) && not (e == r) && not (e == t) && not (c == r)) (not (c == t)) p.0 in
    let s = and_parts (not (e == c) && not (e == r) && not (e == t)) (not (c == r)) q.0 in
    let u = and_parts (not (e == c) && not (e == r)) (not (e == t)) s.0 in
    let v = and_parts (not (e == c)) (not (e == r)) u.0 in
    record {
      element = g.0;
      component = g.1;
      repetition = f.1;
      terminator = b.1;
      element_component = not-true (e == c) v.0;
      element_repetition = not-true (e == r) v.1;
      element_terminator = not-true (e == t) u.1;
      component_repetition = not-true (c == r) s.1;
      component_terminator = not-true (c == t) q.1;
      repetition_terminator = not-true (r == t) p.1;
    }
