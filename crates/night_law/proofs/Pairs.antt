-- Pairs of items: another relation, another list of partners, one pair more in front.
use Rattle.std.proofs.Common.{◌≡◌, ◌<◌, ℕ, zero, suc, List, [], ◌∷◌, Some, map, length, refl, sym, ap, subst, ◌∙◌, arith}
use Rattle.std.specs.Prelude.{option_map, slice_get}
use Rattle.std.proofs.lemmas.List.{length-map}
use Rattle.std.proofs.lemmas.Option.{slice_get-map, slice_get_within}
use Rattle.set_answers.specs.Pairs.{AreAllPairs}
use Rattle.set_answers.proofs.ForAbove.{there_is}

pub pairs_weaker : {A B : Type 0} (R S : ℕ → A → B → Type 0) (xs : List A) (ys : List B)
    → ((n : ℕ) (x : A) (y : B) → R n x y → S n x y) → AreAllPairs R xs ys → AreAllPairs S xs ys
pairs_weaker R S xs ys weaker are = record {
  count = are.count;
  each = λ n x y at_x at_y. weaker n x y (are.each n x y at_x at_y);
}

-- the same by where the first item stands
pub pairs_weaker_at : {A B : Type 0} (R S : ℕ → A → B → Type 0) (xs : List A) (ys : List B)
    → ((n : ℕ) (x : A) (y : B) → slice_get xs n ≡ Some x → R n x y → S n x y) → AreAllPairs R xs ys → AreAllPairs S xs ys
pairs_weaker_at R S xs ys weaker are = record {
  count = are.count;
  each = λ n x y at_x at_y. weaker n x y at_x (are.each n x y at_x at_y);
}

-- what is made of each partner
pub pairs_map : {A B C : Type 0} (R : ℕ → A → B → Type 0) (S : ℕ → A → C → Type 0) (f : B → C) (xs : List A) (ys : List B)
    → ((n : ℕ) (x : A) (y : B) → slice_get xs n ≡ Some x → R n x y → S n x (f y)) → AreAllPairs R xs ys → AreAllPairs S xs (map f ys)
pairs_map {A} {B} {C} R S f xs ys made are = record {
  count = length-map ys f ∙ are.count;
  each = λ n x z at_x at_z. one n x z at_x at_z;
}
  where
    one : (n : ℕ) (x : A) (z : C) → slice_get xs n ≡ Some x → slice_get (map f ys) n ≡ Some z → S n x z
    one n x z at_x at_z =
        let within : n < length ys = omega (arith, slice_get_within xs n x at_x, are.count) in
        let y = there_is ys n within in
        let some : Some (f y.0) ≡ Some z = sym (slice_get-map f ys n ∙ ap (option_map f) y.1) ∙ at_z in
        let same : f y.0 ≡ z = cc in
        subst (λ (v : C). S n x v) same (made n x y.0 at_x (are.each n x y.0 at_x y.1))

pub no_pairs : {A B : Type 0} (R : ℕ → A → B → Type 0) → AreAllPairs R [] []
no_pairs R = record { count = refl; each = λ n x y at_x at_y. let none : slice_get [] n ≡ Some x = at_x in cc }

-- one pair in front
pub pairs_cons : {A B : Type 0} (R : ℕ → A → B → Type 0) (x : A) (y : B) (xs : List A) (ys : List B) → R 0 x y
    → AreAllPairs (λ n a b. R (suc n) a b) xs ys → AreAllPairs R (x ∷ xs) (y ∷ ys)
pairs_cons {A} {B} R x y xs ys first are = record { count = ap suc are.count; each = λ n a b at_a at_b. one n a b at_a at_b }
  where
    one : (n : ℕ) (a : A) (b : B) → slice_get (x ∷ xs) n ≡ Some a → slice_get (y ∷ ys) n ≡ Some b → R n a b
    one zero a b at_a at_b =
        let same_a : x ≡ a = cc in
        let same_b : y ≡ b = cc in
        subst (λ (v : A). R 0 v b) same_a (subst (λ (w : B). R 0 x w) same_b first)
    one (suc n) a b at_a at_b = are.each n a b at_a at_b

-- without the first pair
pub pairs_tail : {A B : Type 0} (R : ℕ → A → B → Type 0) (x : A) (y : B) (xs : List A) (ys : List B)
    → AreAllPairs R (x ∷ xs) (y ∷ ys) → AreAllPairs (λ n a b. R (suc n) a b) xs ys
pairs_tail R x y xs ys are = record {
  count = omega (arith, are.count);
  each = λ n a b at_a at_b. are.each (suc n) a b at_a at_b;
}
