-- Lists that are walked from the front: what is left at a place; and tests of what a list is mapped to.
use Rattle.std.proofs.Common.{◌≡◌, ◌∙◌, ℕ, ◌+◌, ◌-◌, ◌<◌, ◌≤◌, Bool, cond, List, [], ◌∷◌, ◌++◌}
use Rattle.std.proofs.Common.{◌||◌, Some, add-one, ap, append_assoc, arith, drop, drop-cons}
use Rattle.std.proofs.Common.{get_or, length, map, refl, suc, sym, zero}
use Rattle.std.specs.Prelude.{slice_get}
use Rattle.std.specs.List.{list_any, prefix_len}
use Rattle.std.proofs.lemmas.List.{drop-drop, length-drop}
use Rattle.std.proofs.lemmas.Option.{get_or_from_slice_get, slice_get_within}

pub drop_one : {A : Type 0} (xs : List A) (i : ℕ) (x : A) → i < length xs → x ≡ get_or xs i x → drop i xs ≡ x ∷ drop (i + 1) xs
drop_one {A} xs i x low is =
    rw (add-one) (drop-cons xs i x low ∙ ap (λ (k : A). k ∷ drop (suc i) xs) (sym is))

pub drop_at : {A : Type 0} (xs : List A) (i : ℕ) (d : A) → i < length xs → drop i xs ≡ get_or xs i d ∷ drop (i + 1) xs
drop_at {A} xs i d low = rw (add-one) (drop-cons xs i d low)

-- where a list begins that is left of another one
pub suffix : {A : Type 0} (k : ℕ) (xs : List A) → drop (length xs - length (drop k xs)) xs ≡ drop k xs
suffix {A} zero xs = let none : length xs - length xs ≡ 0 = omega (arith) in ap (λ (n : ℕ). drop n xs) none
suffix {A} (suc k) [] = refl
suffix {A} (suc k) (x ∷ xs) =
    let long : length (drop k xs) ≤ length xs = omega (arith, length-drop k xs) in
    let one : length (x ∷ xs) - length (drop k xs) ≡ suc (length xs - length (drop k xs)) = omega (arith, long) in
    ap (λ (n : ℕ). drop n (x ∷ xs)) one ∙ suffix k xs

-- where it begins that is left of the rest
pub rest_at : {A : Type 0} (all rest after : List A) (at n : ℕ) → rest ≡ drop at all → after ≡ drop n rest
    → drop (length all - length after) all ≡ after
rest_at {A} all rest after at n rest_is after_is =
    let whole : after ≡ drop (at + n) all = after_is ∙ ap (λ (l : List A). drop n l) rest_is ∙ drop-drop n at all in
    ap (λ (l : List A). drop (length all - length l) all) whole ∙ suffix (at + n) all ∙ sym whole

pub drop_found : {A : Type 0} (xs : List A) (i : ℕ) (x : A) → slice_get xs i ≡ Some x → drop i xs ≡ x ∷ drop (i + 1) xs
drop_found {A} xs i x is = drop_one xs i x (slice_get_within xs i x is) (sym (get_or_from_slice_get xs i x x is))

pub two : (old x y a b : List ℕ) → x ≡ old ++ a → y ≡ x ++ b → y ≡ old ++ (a ++ b)
two old x y a b one last = last ∙ ap (λ (l : List ℕ). l ++ b) one ∙ append_assoc old a b

-- what is written of an item, and of those after it
pub written_more : (old new done here rest all : List ℕ) → old ++ all ≡ done → new ≡ old ++ here → all ≡ here ++ rest → new ++ rest ≡ done
written_more old new done here rest all so_far adds is =
    ap (λ (t : List ℕ). t ++ rest) adds ∙ append_assoc old here rest ∙ ap (λ (t : List ℕ). old ++ t) (sym is) ∙ so_far

pub any_mapped : {X Y : Type 0} (p : Y → Bool) (f : X → Y) (xs : List X) → list_any (λ x. p (f x)) xs ≡ list_any p (map f xs)
any_mapped p f [] = refl
any_mapped p f (x ∷ xs) = ap (λ (b : Bool). p (f x) || b) (any_mapped p f xs)

pub prefix_mapped : {X Y : Type 0} (p : Y → Bool) (f : X → Y) (xs : List X) → prefix_len (λ x. p (f x)) xs ≡ prefix_len p (map f xs)
prefix_mapped p f [] = refl
prefix_mapped p f (x ∷ xs) = ap (λ (n : ℕ). cond (p (f x)) (1 + n) 0) (prefix_mapped p f xs)
