-- Lists and texts with one more, and counts over what rows have.
use Rattle.std.proofs.Common.{◌≡◌, ◌∙◌, ℕ, ◌+◌, ◌<◌, Bool, ◌||◌, cond, List, [], ◌∷◌, ◌++◌, ap, append_assoc, get_or}
use Rattle.std.proofs.Common.{length, map, refl, sym}
use Rattle.std.proofs.Common.{take}
use Rattle.std.specs.List.{count_by, fold, list_any}
use Rattle.std.specs.Prelude.{nat_lt}
use Rattle.std.proofs.lemmas.List.{length-map, map-append, take_more}

pub two : (old x y a b : List ℕ) → x ≡ old ++ a → y ≡ x ++ b → y ≡ old ++ (a ++ b)
two old x y a b one last = last ∙ ap (λ (l : List ℕ). l ++ b) one ∙ append_assoc old a b

pub taken_at : {X Y : Type 0} (f : X → Y) (xs : List X) (i : ℕ) (d : X) → i < length xs
    → map f (take (i + 1) xs) ≡ map f (take i xs) ++ f (get_or xs i d) ∷ []
taken_at {X} f xs i d low = ap (map f) (take_more xs i d low) ∙ map-append f (take i xs) (get_or xs i d ∷ [])

pub short_rows : {X Y : Type 0} (f : X → Y) (rows : List X) → nat_lt 5000 (length rows) ≡ nat_lt 5000 (length (map f rows))
short_rows f rows = ap (λ (n : ℕ). nat_lt 5000 n) (sym (length-map rows f))

pub one_more : {X : Type 0} (xs : List X) (i : ℕ) (x : X) → i < length xs → x ≡ get_or xs i x → take (i + 1) xs ≡ take i xs ++ x ∷ []
one_more {X} xs i x low is = take_more xs i x low ∙ ap (λ (k : X). take i xs ++ k ∷ []) (sym is)

counted_on : {X Y : Type 0} (p : Y → Bool) (f : X → Y) (n : ℕ) (xs : List X)
    → fold (λ (a : ℕ) (x : X). a + cond (p (f x)) 1 0) n xs ≡ fold (λ (a : ℕ) (y : Y). a + cond (p y) 1 0) n (map f xs)
counted_on p f n [] = refl
counted_on p f n (x ∷ xs) = counted_on p f (n + cond (p (f x)) 1 0) xs

pub counted : {X Y : Type 0} (p : Y → Bool) (f : X → Y) (xs : List X) → count_by (λ x. p (f x)) xs ≡ count_by p (map f xs)
counted p f xs = counted_on p f 0 xs

pub any_mapped : {X Y : Type 0} (p : Y → Bool) (f : X → Y) (xs : List X) → list_any (λ x. p (f x)) xs ≡ list_any p (map f xs)
any_mapped p f [] = refl
any_mapped p f (x ∷ xs) = ap (λ (b : Bool). p (f x) || b) (any_mapped p f xs)

fold_more : {X A : Type 0} (f : A → X → A) (a : A) (xs : List X) (x : X) → fold f a (xs ++ x ∷ []) ≡ f (fold f a xs) x
fold_more f a [] x = refl
fold_more f a (y ∷ ys) x = fold_more f (f a y) ys x

-- a count with one item more
pub count_more : {X : Type 0} (p : X → Bool) (xs ys : List X) (x : X) (old one new : ℕ) → ys ≡ xs ++ x ∷ [] → old ≡ count_by p xs
    → new ≡ old + cond (p x) 1 0 → new ≡ count_by p ys
count_more {X} p xs ys x old one new more so_far adds =
    adds ∙ ap (λ (n : ℕ). n + cond (p x) 1 0) so_far ∙ sym (fold_more (λ (n : ℕ) (y : X). n + cond (p y) 1 0) 0 xs x)
    ∙ ap (λ (l : List X). count_by p l) (sym more)
