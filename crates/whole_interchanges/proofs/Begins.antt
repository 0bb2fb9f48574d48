-- The test of what a header may begin with.
use Rattle.std.proofs.Common.{◌≡◌, ℕ, zero, suc, ◌+◌, ◌-◌, ◌≤◌, min, List, true, false, length, take, drop, slice_range}
use Rattle.std.proofs.Common.{sym, ap, subst, ◌∙◌, arith, inl, inr}
use Rattle.std.proofs.lemmas.Bool.{and_left, and_right, cases_eq, cases_lt}
use Rattle.std.proofs.lemmas.List.{drop_min, length-drop, take_all}
use Rattle.whole_interchanges.specs.Begun.{are_fields_begun, is_field_begun}

-- one field that isn't begun is enough
pub one_not_begun : (bytes : List ℕ) (k n : ℕ) → 1 ≤ k → k ≤ n → is_field_begun bytes k ≡ false → are_fields_begun bytes n ≡ false
unfolding are_fields_begun
one_not_begun bytes k zero from to none = absurd (omega (arith, from, to))
one_not_begun bytes k (suc n) from to none = elim (cases_eq k (n + 1)) [
  | inl same ↦ and_left (is_field_begun bytes (n + 1)) (are_fields_begun bytes n)
      (subst (λ (i : ℕ). is_field_begun bytes i ≡ false) same none)
  | inr other ↦ and_right (is_field_begun bytes (n + 1)) (are_fields_begun bytes n)
      (one_not_begun bytes k n from (omega (arith, to, other)) none)
]

-- what stands between two offsets, as far as the bytes go
pub clipped : (xs : List ℕ) (start end : ℕ) → start ≤ end
    → slice_range xs (min start (length xs)) (min end (length xs)) ≡ slice_range xs start end
clipped xs start end le = ap (take (min end (length xs) - min start (length xs))) (drop_min start xs) ∙ elim (cases_lt (length xs) end) [
  | inl short ↦
      let room : length (drop start xs) ≡ length xs - start = length-drop start xs in
      take_all (min end (length xs) - min start (length xs)) (drop start xs) (omega arith)
      ∙ sym (take_all (end - start) (drop start xs) (omega arith))
  | inr long ↦ ap (λ (k : ℕ). take k (drop start xs)) (let n : min end (length xs) - min start (length xs) ≡ end - start = omega arith in n)
]

pub all_begun : (bytes : List ℕ) (k n : ℕ) → n ≡ k + 1 → are_fields_begun bytes k ≡ true → is_field_begun bytes n ≡ true
    → are_fields_begun bytes n ≡ true
unfolding are_fields_begun
all_begun bytes k n is before here =
    let same : n ≡ suc k = omega (arith, is) in
    subst (λ (i : ℕ). are_fields_begun bytes i ≡ true) (sym same)
    (Rattle.std.proofs.lemmas.Bool.and_from (is_field_begun bytes (k + 1)) (are_fields_begun bytes k)
    (subst (λ (i : ℕ). is_field_begun bytes i ≡ true) is here) before)
