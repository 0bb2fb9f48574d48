-- If each item has another that belongs to it, a list has a list of those.
use Rattle.std.proofs.Common.{◌≡◌, ℕ, zero, suc, List, [], ◌∷◌, Some, refl, ap, subst}
use Rattle.std.specs.Prelude.{slice_get}
use Rattle.set_answers.specs.Pairs.{AreAllPairs, ArePairs}

pub pairs : {A B : Type 0} (xs : List A) (R : ℕ → A → B → Type 0) → ((n : ℕ) (x : A) → (y : B) × R n x y)
    → (ys : List B) × AreAllPairs R xs ys
pairs [] R each = ([], record { count = refl; each = λ n x y at_x at_y. let none : slice_get [] n ≡ Some x = at_x in cc })
pairs {A} {B} (x ∷ xs) R each =
    let rest = pairs xs (λ n. R (suc n)) (λ n a. each (suc n) a) in (
      (each 0 x).0 ∷ rest.0,
      record { count = ap suc rest.1.count; each = joined (each 0 x).0 rest.0 (each 0 x).1 rest.1.each },
    )
  where
    joined : (y : B) (ys : List B) → R 0 x y → ArePairs (λ n. R (suc n)) xs ys → ArePairs R (x ∷ xs) (y ∷ ys)
    joined y ys first later zero a b at_a at_b =
        let same_a : x ≡ a = cc in
        let same_b : y ≡ b = cc in
        subst (λ (v : A). R 0 v b) same_a (subst (λ (w : B). R 0 x w) same_b first)
    joined y ys first later (suc n) a b at_a at_b = later n a b at_a at_b
