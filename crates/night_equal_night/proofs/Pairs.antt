-- Lists whose items belong together, one by one.
use Rattle.std.proofs.Common.{◌≡◌, ℕ, suc, ◌+◌, List, [], ◌∷◌, map, Some, length, refl, ap, ◌∙◌, arith}
use Rattle.std.specs.Prelude.{slice_get}
use Rattle.std.specs.List.{AllZip}
use Rattle.set_answers.specs.Pairs.{AreAllPairs}
use Rattle.night_definition.specs.Elements.{numbered}

pub zip_of_pairs : {A B : Type 0} (R : A → B → Type 0) (xs : List A) (ys : List B) → AreAllPairs (λ n x y. R x y) xs ys → AllZip R xs ys
zip_of_pairs R [] [] are = tt
zip_of_pairs R [] (y ∷ ys) are = absurd (omega (arith, are.count))
zip_of_pairs R (x ∷ xs) [] are = absurd (omega (arith, are.count))
zip_of_pairs R (x ∷ xs) (y ∷ ys) are = (
  are.each 0 x y refl refl,
  zip_of_pairs R xs ys (record { count = omega (arith, are.count); each = λ n a b p q. are.each (suc n) a b p q }),
)

pub zip_map : {A B C : Type 0} (R : A → B → Type 0) (Q : A → C → Type 0) (f : B → C) → ((a : A) (b : B) → R a b → Q a (f b))
    → (xs : List A) (ys : List B) → AllZip R xs ys → AllZip Q xs (map f ys)
zip_map R Q f each [] [] zip = tt
zip_map R Q f each [] (y ∷ ys) zip = absurd zip
zip_map R Q f each (x ∷ xs) [] zip = absurd zip
zip_map R Q f each (x ∷ xs) (y ∷ ys) zip = (each x y zip.0, zip_map R Q f each xs ys zip.1)

pub zip_both : {A B C : Type 0} (R : A → B → Type 0) (Q : C → B → Type 0) (f : A → C) → ((a : A) (b : B) → R a b → Q (f a) b)
    → (xs : List A) (ys : List B) → AllZip R xs ys → AllZip Q (map f xs) ys
zip_both R Q f each [] [] zip = tt
zip_both R Q f each [] (y ∷ ys) zip = absurd zip
zip_both R Q f each (x ∷ xs) [] zip = absurd zip
zip_both R Q f each (x ∷ xs) (y ∷ ys) zip = (each x y zip.0, zip_both R Q f each xs ys zip.1)

from_place : {P A : Type 0} (f : ℕ → P → A) (n : ℕ) (ps : List P) (ys : List A) → length ys ≡ length ps
    → ((k : ℕ) (p : P) (y : A) → slice_get ps k ≡ Some p → slice_get ys k ≡ Some y → y ≡ f (n + k) p)
    → ys ≡ map (λ (p : ℕ × P). f p.0 p.1) (numbered n ps)
from_place f n [] [] long each = refl
from_place f n [] (y ∷ ys) long each = absurd (omega (arith, long))
from_place f n (p ∷ ps) [] long each = absurd (omega (arith, long))
from_place {P} {A} f n (p ∷ ps) (y ∷ ys) long each =
    let same : y ≡ f n p = each 0 p y refl refl ∙ ap (λ k. f k p) (none n) in
    ap (λ z. z ∷ ys) same
    ∙ ap (λ zs. f n p ∷ zs)
    (from_place f (n + 1) ps ys (omega (arith, long)) (λ k q z a b. each (suc k) q z a b ∙ ap (λ m. f m q) (more n k)))
  where
    none : (n : ℕ) → n + 0 ≡ n
    none n = omega arith

    more : (n k : ℕ) → n + suc k ≡ n + 1 + k
    more n k = omega arith

-- what a function gives for each partner is the list of it
pub by_place : {P A : Type 0} (f g : ℕ → P → A) (ps : List P) (ys : List A) → AreAllPairs (λ place p y. y ≡ f place p) ps ys
    → ((place : ℕ) (p : P) → slice_get ps place ≡ Some p → f place p ≡ g place p) → ys ≡ map (λ (p : ℕ × P). g p.0 p.1) (numbered 0 ps)
by_place f g ps ys are same =
    from_place g 0 ps ys are.count (λ k p y a b. are.each k p y a b ∙ same k p a ∙ ap (λ m. g m p) (on k))
  where
    on : (k : ℕ) → k ≡ 0 + k
    on k = omega arith
