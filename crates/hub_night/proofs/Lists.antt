-- Files that are pushed one after another.
use Rattle.std.proofs.Common.{◌≡◌, ◌+◌, ◌<◌, ◌++◌, ◌∷◌, ◌∙◌, [], List, ℕ, ap, append_assoc, get_or, length, map, sym, take}
use Rattle.std.proofs.lemmas.List.{map-append, take_more}

pub laid : {X : Type 0} (none one some more all : List X) (a b : X) (xs ys : List X) → none ≡ [] → one ≡ none ++ a ∷ [] → some ≡ one ++ xs
    → more ≡ some ++ b ∷ [] → all ≡ more ++ ys → all ≡ a ∷ (xs ++ b ∷ ys)
laid {X} none one some more all a b xs ys none_is one_is some_is more_is all_is =
    all_is ∙ ap (λ (l : List X). l ++ ys) (more_is ∙ ap (λ (l : List X). l ++ b ∷ []) (some_is
    ∙ ap (λ (l : List X). l ++ xs) (one_is ∙ ap (λ (l : List X). l ++ a ∷ []) none_is)))
    ∙ ap (λ (l : List X). a ∷ l) (append_assoc xs (b ∷ []) ys)

pub mapped_more : {X Y : Type 0} (f : X → Y) (xs : List X) (i : ℕ) (x : X) (y : Y) (old was now : List Y) → i < length xs
    → x ≡ get_or xs i x
    → was ≡ old ++ map f (take i xs) → y ≡ f x → now ≡ was ++ y ∷ [] → now ≡ old ++ map f (take (i + 1) xs)
mapped_more {X} {Y} f xs i x y old was now low is so_far y_is adds =
    let longer : take (i + 1) xs ≡ take i xs ++ x ∷ [] = take_more xs i x low ∙ ap (λ (z : X). take i xs ++ z ∷ []) (sym is) in
    adds ∙ ap (λ (l : List Y). l ++ y ∷ []) so_far ∙ append_assoc old (map f (take i xs)) (y ∷ [])
    ∙ ap (λ (z : Y). old ++ (map f (take i xs) ++ z ∷ [])) y_is
    ∙ ap (λ (l : List Y). old ++ l) (sym (map-append f (take i xs) (x ∷ [])))
    ∙ ap (λ (l : List X). old ++ map f l) (sym longer)
