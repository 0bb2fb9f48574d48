-- Pairs of items, one by one: one pair more.
use Rattle.std.proofs.Common.{◌≡◌, ℕ, zero, suc, List, [], ◌∷◌, ◌++◌, Some, length, refl, sym, ap, subst, ◌∙◌, ◌⊎◌, inl, inr}
use Rattle.std.specs.Prelude.{slice_get}
use Rattle.set_answers.specs.Pairs.{ArePairs}

-- an item of a list with one item more is one of the list, or this one
pub last_or_before : {B : Type 0} (ys : List B) (y z : B) (n : ℕ) → slice_get (ys ++ y ∷ []) n ≡ Some z
    → (slice_get ys n ≡ Some z) ⊎ ((n ≡ length ys) × (y ≡ z))
last_or_before [] y z zero is = inr (refl, let e : y ≡ z = cc in e)
last_or_before [] y z (suc n) is = cc
last_or_before (x ∷ ys) y z zero is = inl is
last_or_before (x ∷ ys) y z (suc n) is = step (last_or_before ys y z n is)
  where
    step : (slice_get ys n ≡ Some z) ⊎ ((n ≡ length ys) × (y ≡ z)) → (slice_get ys n ≡ Some z) ⊎ ((suc n ≡ suc (length ys)) × (y ≡ z))
    step (inl e) = inl e
    step (inr e) = inr (ap suc e.0, e.1)

pub pairs_more : {A B : Type 0} (R : ℕ → A → B → Type 0) (xs : List A) (ys : List B) (x : A) (y : B) → ArePairs R xs ys
    → slice_get xs (length ys) ≡ Some x → R (length ys) x y → ArePairs R xs (ys ++ y ∷ [])
pairs_more {A} {B} R xs ys x y pairs there is n a b at_a at_b = choose (last_or_before ys y b n at_b)
  where
    choose : (slice_get ys n ≡ Some b) ⊎ ((n ≡ length ys) × (y ≡ b)) → R n a b
    choose (inl before) = pairs n a b at_a before
    choose (inr last) =
        let same : Some x ≡ Some a = sym there ∙ ap (slice_get xs) (sym last.0) ∙ at_a in
        let item : x ≡ a = cc in
        subst (λ (m : ℕ). R m a b) (sym last.0) (subst (λ (v : A). R (length ys) v b) item (subst (R (length ys) x) last.1 is))

pub no_pairs : {A B : Type 0} (R : ℕ → A → B → Type 0) (xs : List A) → ArePairs R xs []
no_pairs R xs n a b at_a at_b = cc
