-- One more of each of two lists.
use Rattle.std.proofs.Common.{◌≡◌, ℕ, ◌+◌, ◌<◌, List, [], ◌∷◌, ◌++◌, ◌∙◌, ap, get_or, length, map, subst, sym, take}
use Rattle.std.specs.List.{AllZip}
use Rattle.std.proofs.lemmas.List.{map-append, take_more}

zip_push : {A B : Type 0} (R : A → B → Type 0) (xs : List A) (ys : List B) (x : A) (y : B) → AllZip R xs ys → R x y
    → AllZip R (xs ++ x ∷ []) (ys ++ y ∷ [])
zip_push R [] [] x y zip of = (of, tt)
zip_push R [] (b ∷ bs) x y zip of = absurd zip
zip_push R (a ∷ xs) [] x y zip of = absurd zip
zip_push R (a ∷ xs) (b ∷ bs) x y zip of = (zip.0, zip_push R xs bs x y zip.1 of)

taken : {X : Type 0} (xs : List X) (i : ℕ) (x : X) → i < length xs → x ≡ get_or xs i x → take (i + 1) xs ≡ take i xs ++ x ∷ []
taken xs i x low is = take_more xs i x low ∙ ap (λ k. take i xs ++ k ∷ []) (sym is)

pub zip_more : {A B : Type 0} (R : A → B → Type 0) (xs : List A) (ys : List B) (i : ℕ) (x : A) (y : B) → i < length xs
    → x ≡ get_or xs i x → AllZip R (take i xs) ys → R x y → AllZip R (take (i + 1) xs) (ys ++ y ∷ [])
zip_more {A} R xs ys i x y low is zip of =
    subst (λ (zs : List A). AllZip R zs (ys ++ y ∷ [])) (sym (taken xs i x low is)) (zip_push R (take i xs) ys x y zip of)

pub zip_map_more : {X A B : Type 0} (f : X → A) (R : A → B → Type 0) (xs : List X) (ys : List B) (i : ℕ) (x : X) (y : B)
    → i < length xs → x ≡ get_or xs i x → AllZip R (map f (take i xs)) ys → R (f x) y
    → AllZip R (map f (take (i + 1) xs)) (ys ++ y ∷ [])
zip_map_more {X} {A} f R xs ys i x y low is zip of =
    subst (λ (zs : List A). AllZip R zs (ys ++ y ∷ []))
    (sym (ap (map f) (taken xs i x low is) ∙ map-append f (take i xs) (x ∷ [])))
    (zip_push R (map f (take i xs)) ys (f x) y zip of)
