-- A list with another item in one place.
use Rattle.std.proofs.Common.{◌≡◌, ◌≢◌, ◌<◌, ℕ, zero, suc, ◌==◌, Bool, true, false, List, [], ◌∷◌, Some, length, refl, sym, ap, subst, ◌∙◌}
use Rattle.std.proofs.Common.{◌++◌, take, arith, eqb-true, eq-eqb, true≢false}
use Rattle.std.specs.Prelude.{slice_get, slice_set}

pub set_here : {A : Type 0} (xs : List A) (i : ℕ) (x y : A) → slice_get xs i ≡ Some x → slice_get (slice_set xs i y) i ≡ Some y
set_here [] i x y is = cc
set_here (z ∷ zs) zero x y is = refl
set_here (z ∷ zs) (suc i) x y is = set_here zs i x y is

pub set_there : {A : Type 0} (xs : List A) (i j : ℕ) (y : A) → i ≢ j → slice_get (slice_set xs i y) j ≡ slice_get xs j
set_there [] i j y other = refl
set_there (z ∷ zs) zero zero y other = absurd (other refl)
set_there (z ∷ zs) zero (suc j) y other = refl
set_there (z ∷ zs) (suc i) zero y other = refl
set_there (z ∷ zs) (suc i) (suc j) y other = set_there zs i j y (λ e. other (ap suc e))

pub length_set : {A : Type 0} (xs : List A) (i : ℕ) (y : A) → length (slice_set xs i y) ≡ length xs
length_set [] i y = refl
length_set (z ∷ zs) zero y = refl
length_set (z ∷ zs) (suc i) y = ap suc (length_set zs i y)

pub there_is : {A : Type 0} (xs : List A) (i : ℕ) → i < length xs → (x : A) × (slice_get xs i ≡ Some x)
there_is [] i within = absurd (omega (arith, within))
there_is (x ∷ xs) zero within = (x, refl)
there_is (x ∷ xs) (suc i) within = there_is xs i (omega (arith, within))

pub take_front : {A : Type 0} (xs ys : List A) (n : ℕ) → length xs ≡ n → take n (xs ++ ys) ≡ xs
take_front [] ys zero is = refl
take_front [] ys (suc n) is = absurd (omega (arith, is))
take_front (x ∷ xs) ys zero is = absurd (omega (arith, is))
take_front (x ∷ xs) ys (suc n) is = ap (λ zs. x ∷ zs) (take_front xs ys n (omega (arith, is)))

-- each item is in this relation to the one that was in its place, if the new one is, and so are equal ones in the other places
module _ {A : Type 0} (R : ℕ → A → A → Type 0) (old new : List A) (s : ℕ) (within : s < length old)
    (made : (f : A) → slice_get old s ≡ Some f → (v : A) × (new ≡ slice_set old s v) × R s f v)
    (others : (q : ℕ) (f : A) → (s == q) ≡ false → R q f f) where
  had : (f : A) × (slice_get old s ≡ Some f)
  had = there_is old s within

  put : (v : A) × (new ≡ slice_set old s v) × R s had.0 v
  put = made had.0 had.1

  pub put_length : length new ≡ length old
  put_length = ap (λ (l : List A). length l) put.1 ∙ length_set old s put.0

  by : (q : ℕ) (f : A) → slice_get old q ≡ Some f → (b : Bool) → (s == q) ≡ b → (v : A) × (slice_get new q ≡ Some v) × R q f v
  by q f there true same =
      let q_is : s ≡ q = eqb-true s q same in
      let here : slice_get old s ≡ Some f = subst (λ (n : ℕ). slice_get old n ≡ Some f) (sym q_is) there in
      let one = made f here in (
        one.0,
        subst (λ (n : ℕ). slice_get new n ≡ Some one.0) q_is
            (ap (λ (l : List A). slice_get l s) one.1 ∙ set_here old s f one.0 here),
        subst (λ (n : ℕ). R n f one.0) q_is one.2,
      )
  by q f there false other = (
    f,
    ap (λ (l : List A). slice_get l q) put.1 ∙ set_there old s q put.0 (λ e. true≢false (sym (eq-eqb s q e) ∙ other)) ∙ there,
    others q f other,
  )

  pub put_each : (q : ℕ) (f : A) → slice_get old q ≡ Some f → (v : A) × (slice_get new q ≡ Some v) × R q f v
  put_each q f there = by q f there (s == q) refl
