-- Lists whose items belong together in their order, put together and cut.
use Rattle.std.proofs.Common.{List, [], ◌∷◌, ◌++◌, length, take, drop}
use Rattle.std.specs.List.{AllZip}

pub zip_append : {A B : Type 0} (R : A → B → Type 0) (xs xs' : List A) (ys ys' : List B) → AllZip R xs ys → AllZip R xs' ys'
    → AllZip R (xs ++ xs') (ys ++ ys')
zip_append R [] xs' [] ys' h k = k
zip_append R [] xs' (y ∷ ys) ys' h k = absurd h
zip_append R (x ∷ xs) xs' [] ys' h k = absurd h
zip_append R (x ∷ xs) xs' (y ∷ ys) ys' h k = (h.0, zip_append R xs xs' ys ys' h.1 k)

pub zip_front : {A B : Type 0} (R : A → B → Type 0) (rs bs : List A) (fs : List B) → AllZip R (rs ++ bs) fs
    → AllZip R rs (take (length rs) fs)
zip_front R [] bs fs h = tt
zip_front R (a ∷ rs) bs [] h = h
zip_front R (a ∷ rs) bs (f ∷ fs) h = (h.0, zip_front R rs bs fs h.1)

pub zip_back : {A B : Type 0} (R : A → B → Type 0) (rs bs : List A) (fs : List B) → AllZip R (rs ++ bs) fs
    → AllZip R bs (drop (length rs) fs)
zip_back R [] bs fs h = h
zip_back R (a ∷ rs) bs [] h = absurd h
zip_back R (a ∷ rs) bs (f ∷ fs) h = zip_back R rs bs fs h.1
