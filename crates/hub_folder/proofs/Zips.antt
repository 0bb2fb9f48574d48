-- One more of each of two lists.
use Rattle.std.proofs.Common.{◌≡◌, ℕ, ◌+◌, ◌<◌, List, [], ◌∷◌, ◌++◌, ◌∙◌, ap, get_or, length, map, subst, sym, take}
use Rattle.std.specs.List.{AllZip}
use Rattle.std.proofs.lemmas.List.{map-append, take_more}

zip_push : {A B : Type 0} (R : A → B → Type 0) (xs : List A) (ys : List B) (x : A) (y : B) → AllZip R xs ys → R x y
    → AllZip R (xs ++ x ∷ []) (ys ++ y ∷ [])
zip_push R [] [] x y zip of = (of, tt)
zip_push R [] (b ∷ bs) x y zip of = absurd zip
zip_push R (a ∷ xs) [] x y zip of = absurd zip
zip_push R (a ∷ xs) (b ∷ bs) x y zip of = (zip.0, zip_push R xs bs x y zip.1 of)

pub zip_more : {A B : Type 0} (R : A → B → Type 0) (xs : List A) (ys : List B) (i : ℕ) (x : A) (y : B) → i < length xs
    → x ≡ get_or xs i x → AllZip R (take i xs) ys → R x y → AllZip R (take (i + 1) xs) (ys ++ y ∷ [])
zip_more R xs ys i x y low is zip of =
    subst (λ l. AllZip R l (ys ++ y ∷ [])) (sym (take_more xs i x low ∙ ap (λ k. take i xs ++ k ∷ []) (sym is)))
    (zip_push R (take i xs) ys x y zip of)

pub zip_mapped : {X A B : Type 0} (f : X → A) (R : A → B → Type 0) (xs : List X) (ys : List B) (i : ℕ) (none : X) (y : B) → i < length xs
    → AllZip R (map f (take i xs)) ys → R (f (get_or xs i none)) y → AllZip R (map f (take (i + 1) xs)) (ys ++ y ∷ [])
zip_mapped f R xs ys i none y low zip of =
    subst (λ l. AllZip R l (ys ++ y ∷ []))
    (sym (ap (map f) (take_more xs i none low) ∙ map-append f (take i xs) (get_or xs i none ∷ [])))
    (zip_push R (map f (take i xs)) ys (f (get_or xs i none)) y zip of)
