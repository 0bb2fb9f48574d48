-- Keys that compare as equal are those of one number.
use Rattle.std.proofs.Common.{◌≡◌, ℕ, ◌<◌, inl, inr, true, List, [], ◌∷◌, refl, sym, ap, ◌∙◌, true≢false, arith}
use Rattle.std.specs.Cmp.{nat_cmp_is}
use Rattle.std.specs.Ordering.{is_eq, nat_cmp, ordering_then}
use Rattle.std.specs.declared.cmp.Ordering.{Ordering}
use Rattle.std.specs.declared.cmp.Ordering.TheVariants.{Less, Equal, Greater}
use Rattle.std.proofs.lemmas.Bool.{cases_lt}
use Rattle.std.proofs.lemmas.Map.Text.{is_eq-slice_cmp}
use Rattle.std.proofs.lemmas.Slice.Eq.{bytes_eq-Decides}
use Rattle.hub_kinds.specs.Words.{by_text}
use Rattle.number_register.specs.Slots.{code_in, InterchangeKey, text_of}
use denote.Ref.{Bor}

pub lent_same : (a b : Bor (List ℕ)) → is_eq (by_text a b) ≡ true → text_of a ≡ text_of b
lent_same a b h = (bytes_eq-Decides a.now b.now).0 (sym (is_eq-slice_cmp a.now b.now) ∙ h)

pub lent_equal : (a b : Bor (List ℕ)) → text_of a ≡ text_of b → is_eq (by_text a b) ≡ true
lent_equal a b e = is_eq-slice_cmp a.now b.now ∙ (bytes_eq-Decides a.now b.now).1 e

code_same_by : (a b : ℕ) (o : Ordering) → nat_cmp a b ≡ o → is_eq o ≡ true → (a < b → ⊥) × (b < a → ⊥)
code_same_by a b o e h = (
  λ l. absurd (true≢false (sym h ∙ ap is_eq (sym e ∙ sym (nat_cmp_is a b Less l)))),
  λ l. absurd (true≢false (sym h ∙ ap is_eq (sym e ∙ sym (nat_cmp_is a b Greater l)))),
)

pub code_same : (a b : ℕ) → is_eq (nat_cmp a b) ≡ true → a ≡ b
code_same a b h =
    let no = code_same_by a b (nat_cmp a b) refl h in
    elim (cases_lt a b) [
      | inl l ↦ absurd (no.0 l)
      | inr u ↦ elim (cases_lt b a) [ inl l ↦ absurd (no.1 l) | inr v ↦ omega (arith, u, v) ]
    ]

pub code_equal : (a b : ℕ) → a ≡ b → is_eq (nat_cmp a b) ≡ true
code_equal a b e = ap is_eq (sym (nat_cmp_is a b Equal e))

both_equal : (o p : Ordering) → is_eq (ordering_then o p) ≡ true → (is_eq o ≡ true) × (is_eq p ≡ true)
both_equal Less p h = absurd (true≢false (sym h))
both_equal Equal p h = (refl, h)
both_equal Greater p h = absurd (true≢false (sym h))

equal_both : (o p : Ordering) → is_eq o ≡ true → is_eq p ≡ true → is_eq (ordering_then o p) ≡ true
equal_both Less p h g = h
equal_both Equal p h g = g
equal_both Greater p h g = h

-- how keys of interchanges compare
abbrev pub by_code : InterchangeKey → InterchangeKey → Ordering
by_code a b =
    ordering_then (ordering_then (ordering_then (ordering_then (ordering_then (nat_cmp a.0 b.0) (by_text a.1 b.1)) (by_text a.2 b.2))
    (by_text a.3 b.3)) (by_text a.4 b.4)) (by_text a.5 b.5)

pub codes_same : (a b : InterchangeKey) → is_eq (by_code a b) ≡ true → code_in a ≡ code_in b
codes_same a b h =
    let five = both_equal _ (by_text a.5 b.5) h in
    let four = both_equal _ (by_text a.4 b.4) five.0 in
    let three = both_equal _ (by_text a.3 b.3) four.0 in
    let two = both_equal _ (by_text a.2 b.2) three.0 in
    let one = both_equal (nat_cmp a.0 b.0) (by_text a.1 b.1) two.0 in
    let n = code_same a.0 b.0 one.0 in
    let v = lent_same a.1 b.1 one.1 in
    let w = lent_same a.2 b.2 two.1 in
    let x = lent_same a.3 b.3 three.1 in
    let y = lent_same a.4 b.4 four.1 in
    let z = lent_same a.5 b.5 five.1 in
    λ i. (n i, v i ∷ w i ∷ x i ∷ y i ∷ z i ∷ [])

pub codes_equal : (a b : InterchangeKey) → code_in a ≡ code_in b → is_eq (by_code a b) ≡ true
codes_equal a b e =
    let fields : text_of a.1 ∷ text_of a.2 ∷ text_of a.3 ∷ text_of a.4 ∷ text_of a.5 ∷ []
    ≡ text_of b.1 ∷ text_of b.2 ∷ text_of b.3 ∷ text_of b.4 ∷ text_of b.5 ∷ []
    = ap (λ (c : ℕ × List (List ℕ)). c.1) e in
    let v : text_of a.1 ≡ text_of b.1 = cc in
    let w : text_of a.2 ≡ text_of b.2 = cc in
    let x : text_of a.3 ≡ text_of b.3 = cc in
    let y : text_of a.4 ≡ text_of b.4 = cc in
    let z : text_of a.5 ≡ text_of b.5 = cc in
    equal_both _ (by_text a.5 b.5) (equal_both _ (by_text a.4 b.4) (equal_both _ (by_text a.3 b.3) (equal_both _ (by_text a.2 b.2)
    (equal_both (nat_cmp a.0 b.0) (by_text a.1 b.1) (code_equal a.0 b.0 (ap (λ (c : ℕ × List (List ℕ)). c.0) e)) (lent_equal a.1 b.1 v))
    (lent_equal a.2 b.2 w)) (lent_equal a.3 b.3 x)) (lent_equal a.4 b.4 y)) (lent_equal a.5 b.5 z)
