-- Two lists whose items belong together, one by one, and one more of each.
use Rattle.std.proofs.Common.{◌≡◌, ℕ, ◌+◌, ◌<◌, List, [], ◌∷◌, ◌++◌, length, take, get_or, sym, subst}
use Rattle.std.specs.List.{AllZip}
use Rattle.std.proofs.lemmas.List.{take_more}

pub zip_append : {A B : Type 0} (R : A → B → Type 0) (xs xs' : List A) (ys ys' : List B) → AllZip R xs ys → AllZip R xs' ys'
    → AllZip R (xs ++ xs') (ys ++ ys')
zip_append R [] xs' [] ys' h k = k
zip_append R [] xs' (y ∷ ys) ys' h k = absurd h
zip_append R (x ∷ xs) xs' [] ys' h k = absurd h
zip_append R (x ∷ xs) xs' (y ∷ ys) ys' h k = (h.0, zip_append R xs xs' ys ys' h.1 k)

pub zip_more : {A B : Type 0} (R : A → B → Type 0) (xs : List A) (ys new : List B) (i : ℕ) (d : A) (y : B) → i < length xs
    → new ≡ ys ++ y ∷ [] → AllZip R (take i xs) ys → R (get_or xs i d) y → AllZip R (take (i + 1) xs) new
zip_more R xs ys new i d y inside is before here =
    subst (λ l. AllZip R l new) (sym (take_more xs i d inside))
    (subst (λ l. AllZip R (take i xs ++ get_or xs i d ∷ []) l) (sym is)
    (zip_append R (take i xs) (get_or xs i d ∷ []) ys (y ∷ []) before (here, tt)))
