-- Items that belong together, from list to list.
use Rattle.std.proofs.Common.{◌≡◌, ℕ, suc, List, [], ◌∷◌, ◌++◌, Some, refl, arith}
use Rattle.std.specs.Prelude.{slice_get}
use Rattle.std.specs.List.{All}
use Rattle.std.proofs.lemmas.List.Elements.{All-cons, All-nil}
use Rattle.set_answers.specs.Pairs.{AreAllPairs}
use Rattle.night_law.proofs.Pairs.{no_pairs, pairs_cons, pairs_tail}

abbrev pub Together : {A B : Type 0} → (A → B → Type 0) → List A → List B → Type 0
Together R [] [] = Unit {0}
Together R [] (y ∷ ys) = ⊥
Together R (x ∷ xs) [] = ⊥
Together R (x ∷ xs) (y ∷ ys) = R x y × Together R xs ys

pub together_append : {A B : Type 0} (R : A → B → Type 0) (xs us : List A) (ys vs : List B) → Together R xs ys → Together R us vs
    → Together R (xs ++ us) (ys ++ vs)
together_append R [] us [] vs front back = back
together_append R [] us (y ∷ ys) vs front back = absurd front
together_append R (x ∷ xs) us [] vs front back = absurd front
together_append R (x ∷ xs) us (y ∷ ys) vs front back = (front.0, together_append R xs us ys vs front.1 back)

pub together_pairs : {A B : Type 0} (R : A → B → Type 0) (xs : List A) (ys : List B) → Together R xs ys
    → AreAllPairs (λ n x y. R x y) xs ys
together_pairs R [] [] all = no_pairs (λ n x y. R x y)
together_pairs R [] (y ∷ ys) all = absurd all
together_pairs R (x ∷ xs) [] all = absurd all
together_pairs R (x ∷ xs) (y ∷ ys) all = pairs_cons (λ n x y. R x y) x y xs ys all.0 (together_pairs R xs ys all.1)

-- what each pair says of its second item holds of all of these
pub pairs_all : {A B : Type 0} (R : ℕ → A → B → Type 0) (P : B → Type 0) (xs : List A) (ys : List B) → AreAllPairs R xs ys
    → ((n : ℕ) (x : A) (y : B) → slice_get xs n ≡ Some x → R n x y → P y) → All P ys
pairs_all R P [] [] are tells = All-nil P
pairs_all R P [] (y ∷ ys) are tells = absurd (omega (arith, are.count))
pairs_all R P (x ∷ xs) [] are tells = All-nil P
pairs_all {A} {B} R P (x ∷ xs) (y ∷ ys) are tells =
    All-cons P y ys (tells 0 x y refl (are.each 0 x y refl refl))
    (pairs_all (λ n a b. R (suc n) a b) P xs ys (pairs_tail R x y xs ys are) (λ n a b at_a is. tells (suc n) a b at_a is))
