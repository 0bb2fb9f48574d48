-- Positions that have rows, none twice, are no more than the rows.
use Rattle.std.proofs.Common.{◌≡◌, ℕ, zero, suc, ◌+◌, ◌<◌, ◌≤◌, ◌∙◌, List, [], ◌∷◌, Bool, true, false, length, map, refl, ap, arith}
use Rattle.std.specs.Prelude.{◌==◌, ◌&&◌, not, nat_le, eqb}
use mathlib.Core.Logic.{inl, inr}
use Rattle.std.specs.List.{list_all, list_any, AllByRecursion, IsDistinct}
use Rattle.std.proofs.lemmas.Bool.{and_parts, or_cases, or_parts, not-true, not_from_false, eqb-true, ne_eqb, leb-true, false≢true}
use Rattle.std.proofs.lemmas.Map.Steps.{length-le_from_distinct_below}
use Rattle.guide_tree.specs.declared.slot.Slot.{Slot}
use Rattle.guide_tree.specs.declared.slot.Pick.{Pick}
use Rattle.guide_tree.specs.Bounds.{is_within, has_codes}
use Rattle.guide_tree.specs.Conditions.{is_distinct, has_row, is_pick_of, pick_position}

apart : (x : ℕ) (xs : List ℕ) → not (list_any (λ y. x == y) xs) ≡ true → AllByRecursion (λ y. (x == y) ≡ false) xs
apart x [] h = tt
apart x (y ∷ ys) h =
    let a = or_parts (x == y) (list_any (λ y. x == y) ys) (not-true (list_any (λ y. x == y) (y ∷ ys)) h) in
    (a.0, apart x ys (not_from_false (list_any (λ y. x == y) ys) a.1))

distinct : (xs : List ℕ) → is_distinct xs ≡ true → IsDistinct eqb xs
unfolding IsDistinct
distinct [] h = tt
distinct (x ∷ xs) h = let a = and_parts (not (list_any (λ y. x == y) xs)) (is_distinct xs) h in (apart x xs a.0, distinct xs a.1)

no_zero : (n : ℕ) (xs : List ℕ) → list_all (is_within 1 n) xs ≡ true → AllByRecursion (λ y. (0 == y) ≡ false) xs
no_zero n [] h = tt
no_zero n (zero ∷ xs) h = absurd (false≢true (and_parts (is_within 1 n zero) (list_all (is_within 1 n) xs) h).0)
no_zero n (suc x ∷ xs) h =
    (ne_eqb 0 (suc x) (λ e. omega arith), no_zero n xs (and_parts (is_within 1 n (suc x)) (list_all (is_within 1 n) xs) h).1)

below : (n : ℕ) (xs : List ℕ) → list_all (is_within 1 n) xs ≡ true → (q : ℕ) → list_any (eqb q) xs ≡ true → q < n + 1
below n [] h q e = absurd (false≢true e)
below n (x ∷ xs) h q e =
    let a = and_parts (is_within 1 n x) (list_all (is_within 1 n) xs) h in
    let within = leb-true x n (and_parts (nat_le 1 x) (nat_le x n) a.0).1 in
    elim (or_cases (eqb q x) (list_any (eqb q) xs) e) [
      | inl e ↦ let is = eqb-true q x e in omega (arith, is, within)
      | inr e ↦ below n xs a.1 q e
    ]

below_or_zero : (n : ℕ) (xs : List ℕ) → list_all (is_within 1 n) xs ≡ true → (q : ℕ) → list_any (eqb q) (0 ∷ xs) ≡ true → q < n + 1
below_or_zero n xs h q e = elim (or_cases (eqb q 0) (list_any (eqb q) xs) e) [
  | inl e ↦ let is = eqb-true q 0 e in omega (arith, is)
  | inr e ↦ below n xs h q e
]

few : (n : ℕ) (xs : List ℕ) → is_distinct xs ≡ true → list_all (is_within 1 n) xs ≡ true → length xs ≤ n
unfolding IsDistinct
few n xs d h =
    let l = length-le_from_distinct_below (0 ∷ xs) (n + 1) (no_zero n xs h, distinct xs d) (below_or_zero n xs h) in omega (arith, l)

distinct_or_not : (xs : List ℕ) (n : ℕ) (b : Bool) → is_distinct xs ≡ b → list_all (is_within 1 n) xs ≡ true → n < length xs
    → is_distinct xs ≡ false
distinct_or_not xs n true d h many = let l = few n xs d h in absurd (omega (arith, l, many))
distinct_or_not xs n false d h many = d

-- so where there are more, one stands twice
pub not_distinct : (s : Slot) (xs : List ℕ) → list_all (has_row s) xs ≡ true → length s.elements < length xs → is_distinct xs ≡ false
not_distinct s xs h many = distinct_or_not xs (length s.elements) (is_distinct xs) refl h many

pub picks_have_rows : (s : Slot) (picks : List Pick) → list_all (is_pick_of s) picks ≡ true
    → list_all (has_row s) (map pick_position picks) ≡ true
picks_have_rows s [] h = refl
picks_have_rows s (p ∷ picks) h =
    let a = and_parts (is_pick_of s p) (list_all (is_pick_of s) picks) h in
    let b = and_parts (has_row s p.position) (has_codes p.codes) a.0 in
    ap (λ c. c && list_all (has_row s) (map pick_position picks)) b.0 ∙ picks_have_rows s picks a.1
