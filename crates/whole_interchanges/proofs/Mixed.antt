-- The front of one list, and after it what another has there.
use Rattle.std.proofs.Common.{◌≡◌, ℕ, zero, suc, ◌<◌, ◌≤◌, List, [], ◌∷◌, ◌++◌, Bool, true, ◌&&◌, length, take, drop, get_or}
use Rattle.std.proofs.Common.{refl, sym, ap, arith}
use Rattle.std.specs.List.{list_all}
use Rattle.std.proofs.lemmas.Bool.{and_parts, and_from}
use Rattle.std.proofs.lemmas.List.{append-nil, get_or_past}

abbrev pub mixed : List ℕ → List ℕ → List ℕ
mixed [] ys = ys
mixed (x ∷ xs) [] = x ∷ xs
mixed (x ∷ xs) (y ∷ ys) = x ∷ mixed xs ys

pub mixed_is : (xs ys : List ℕ) → mixed xs ys ≡ xs ++ drop (length xs) ys
mixed_is [] ys = refl
mixed_is (x ∷ xs) [] = sym (append-nil (x ∷ xs))
mixed_is (x ∷ xs) (y ∷ ys) = ap (λ (l : List ℕ). x ∷ l) (mixed_is xs ys)

pub mixed_first : (xs ys : List ℕ) (k : ℕ) → k < length xs → get_or (mixed xs ys) k 0 ≡ get_or xs k 0
mixed_first [] ys k lt = absurd (omega arith)
mixed_first (x ∷ xs) [] k lt = refl
mixed_first (x ∷ xs) (y ∷ ys) zero lt = refl
mixed_first (x ∷ xs) (y ∷ ys) (suc k) lt = mixed_first xs ys k (omega arith)

pub mixed_second : (xs ys : List ℕ) (k : ℕ) → length xs ≤ k → get_or (mixed xs ys) k 0 ≡ get_or ys k 0
mixed_second [] ys k le = refl
mixed_second (x ∷ xs) [] k le = get_or_past (x ∷ xs) k 0 le
mixed_second (x ∷ xs) (y ∷ ys) zero le = absurd (omega arith)
mixed_second (x ∷ xs) (y ∷ ys) (suc k) le = mixed_second xs ys k (omega arith)

pub mixed_length : (xs ys : List ℕ) → length xs ≤ length ys → length (mixed xs ys) ≡ length ys
mixed_length [] ys le = refl
mixed_length (x ∷ xs) [] le = absurd (omega arith)
mixed_length (x ∷ xs) (y ∷ ys) le = ap suc (mixed_length xs ys (omega arith))

-- where the first list is as far as it goes the other's front, so is what is mixed
pub mixed_take : (m : ℕ) (xs ys : List ℕ) → take m xs ≡ take (length xs) (take m ys) → take m (mixed xs ys) ≡ take m ys
mixed_take zero xs ys is = refl
mixed_take (suc m) [] ys is = refl
mixed_take (suc m) (x ∷ xs) [] is = cc
mixed_take (suc m) (x ∷ xs) (y ∷ ys) is =
    let head : x ≡ y = cc in
    let tail : take m xs ≡ take (length xs) (take m ys) = cc in
    let rest : take m (mixed xs ys) ≡ take m ys = mixed_take m xs ys tail in
    cc

front_all : (p : ℕ → Bool) (w : ℕ) (xs ys : List ℕ) → list_all p (take w xs) ≡ true → list_all p (take w ys) ≡ true
    → list_all p (take w (mixed xs ys)) ≡ true
front_all p w [] ys left right = right
front_all p w (x ∷ xs) [] left right = left
front_all p zero (x ∷ xs) (y ∷ ys) left right = refl
front_all p (suc w) (x ∷ xs) (y ∷ ys) left right =
    let lefts = and_parts (p x) (list_all p (take w xs)) left in
    let rights = and_parts (p y) (list_all p (take w ys)) right in
    and_from (p x) (list_all p (take w (mixed xs ys))) lefts.0 (front_all p w xs ys lefts.1 rights.1)

-- what passes at a stretch of both passes there
pub stretch_all : (p : ℕ → Bool) (s w : ℕ) (xs ys : List ℕ) → list_all p (take w (drop s xs)) ≡ true
    → list_all p (take w (drop s ys)) ≡ true → list_all p (take w (drop s (mixed xs ys))) ≡ true
stretch_all p zero w xs ys left right = front_all p w xs ys left right
stretch_all p (suc s) w [] ys left right = right
stretch_all p (suc s) w (x ∷ xs) [] left right = left
stretch_all p (suc s) w (x ∷ xs) (y ∷ ys) left right = stretch_all p s w xs ys left right

-- two tests at one stretch, where the second passes everywhere
pub both_all : (p q : ℕ → Bool) (s w : ℕ) (xs : List ℕ) → list_all p (take w (drop s xs)) ≡ true → list_all q xs ≡ true
    → list_all (λ b. p b && q b) (take w (drop s xs)) ≡ true
both_all p q zero zero xs at all = refl
both_all p q zero (suc w) [] at all = refl
both_all p q zero (suc w) (x ∷ xs) at all =
    let here = and_parts (p x) (list_all p (take w xs)) at in
    let there = and_parts (q x) (list_all q xs) all in
    and_from (p x && q x) (list_all (λ b. p b && q b) (take w xs)) (and_from (p x) (q x) here.0 there.0)
    (both_all p q zero w xs here.1 there.1)
both_all p q (suc s) w [] at all = nothing w
  where
    nothing : (w : ℕ) → list_all (λ b. p b && q b) (take w []) ≡ true
    nothing zero = refl
    nothing (suc w) = refl
both_all p q (suc s) w (x ∷ xs) at all = both_all p q s w xs at (and_parts (q x) (list_all q xs) all).1
