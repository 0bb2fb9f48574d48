-- A list shorter than a count lacks one of as many numbers.
use Rattle.std.proofs.Common.{◌≡◌, ◌≢◌, ℕ, zero, suc, ◌+◌, ◌<◌, ◌≤◌, List, [], ◌∷◌, Bool, true, false, not, nat_eq, cond, length}
use Rattle.std.proofs.Common.{◌⊎◌, refl, sym, ap, ◌∙◌, arith, inl, inr}
use Rattle.std.specs.List.{list_all}
use Rattle.std.proofs.lemmas.Bool.{and_parts, and_from, cases_Bool, eqb-true, ne_eqb}

-- none of these is that number
abbrev pub is_absent : ℕ → List ℕ → Bool
is_absent t xs = list_all (λ b. not (nat_eq b t)) xs

-- the same without it
abbrev without : ℕ → List ℕ → List ℕ
without t [] = []
without t (x ∷ xs) = cond (nat_eq x t) (without t xs) (x ∷ without t xs)

without_le : (t : ℕ) (xs : List ℕ) → length (without t xs) ≤ length xs
without_le t [] = omega arith
without_le t (x ∷ xs) =
    let rest : length (without t xs) ≤ length xs = without_le t xs in
    elim (cases_Bool (nat_eq x t)) [
      | inl holds ↦ (let is : length (without t (x ∷ xs)) ≡ length (without t xs) =
          ap (λ (b : Bool). length (cond b (without t xs) (x ∷ without t xs))) holds in omega arith)
      | inr fails ↦ (let is : length (without t (x ∷ xs)) ≡ suc (length (without t xs)) =
          ap (λ (b : Bool). length (cond b (without t xs) (x ∷ without t xs))) fails in omega arith)
    ]

-- it is absent, or fewer are left without it
shorter : (t : ℕ) (xs : List ℕ) → (is_absent t xs ≡ true) ⊎ (length (without t xs) < length xs)
shorter t [] = inl refl
shorter t (x ∷ xs) = elim (cases_Bool (nat_eq x t)) [
  | inl holds ↦
      let le : length (without t xs) ≤ length xs = without_le t xs in
      let is : length (without t (x ∷ xs)) ≡ length (without t xs) =
      ap (λ (b : Bool). length (cond b (without t xs) (x ∷ without t xs))) holds in
      inr (omega arith)
  | inr fails ↦
      let is : length (without t (x ∷ xs)) ≡ suc (length (without t xs)) =
      ap (λ (b : Bool). length (cond b (without t xs) (x ∷ without t xs))) fails in
      elim (shorter t xs) [
        | inl none ↦ inl (and_from (not (nat_eq x t)) (is_absent t xs) (ap not fails) none)
        | inr lt ↦ inr (omega arith)
      ]
]

-- what is absent without another number is absent
still_absent : (t u : ℕ) → u ≢ t → (xs : List ℕ) → is_absent t (without u xs) ≡ true → is_absent t xs ≡ true
still_absent t u ne [] none = refl
still_absent t u ne (x ∷ xs) none = elim (cases_Bool (nat_eq x u)) [
  | inl holds ↦
      let same : x ≡ u = eqb-true x u holds in
      let left : is_absent t (without u xs) ≡ true =
      sym (ap (λ (b : Bool). is_absent t (cond b (without u xs) (x ∷ without u xs))) holds) ∙ none in
      let other : nat_eq x t ≡ false = ne_eqb x t (λ e. ne (sym same ∙ e)) in
      and_from (not (nat_eq x t)) (is_absent t xs) (ap not other) (still_absent t u ne xs left)
  | inr fails ↦
      let left : is_absent t (x ∷ without u xs) ≡ true =
      sym (ap (λ (b : Bool). is_absent t (cond b (without u xs) (x ∷ without u xs))) fails) ∙ none in
      let parts = and_parts (not (nat_eq x t)) (is_absent t (without u xs)) left in
      and_from (not (nat_eq x t)) (is_absent t xs) parts.0 (still_absent t u ne xs parts.1)
]

-- one of so many numbers from a first on
pub record IsAbsentFrom (first count : ℕ) (xs : List ℕ) (t : ℕ) : Type 0 where
  pub low : first ≤ t
  pub high : t < first + count
  pub absent : is_absent t xs ≡ true

pub one_is_absent : (first count : ℕ) (xs : List ℕ) → length xs < count → (t : ℕ) × IsAbsentFrom first count xs t
one_is_absent first zero xs few = absurd (omega arith)
one_is_absent first (suc n) xs few = elim (shorter (first + n) xs) [
  | inl none ↦ (first + n, record { low = omega arith; high = omega arith; absent = none })
  | inr lt ↦
      let fewer : List ℕ = without (first + n) xs in
      let found : (t : ℕ) × IsAbsentFrom first n fewer t = one_is_absent first n fewer (omega arith) in
      let high : found.0 < first + n = found.1.high in (
        found.0,
        record {
          low = found.1.low;
          high = omega arith;
          absent = still_absent found.0 (first + n) (λ e. omega (arith, e, high)) xs found.1.absent;
        },
      )
]
