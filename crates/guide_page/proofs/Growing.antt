-- Texts that grow by one part after another.
use Rattle.std.proofs.Common.{◌≡◌, ◌∙◌, ℕ, ◌+◌, ◌<◌, List, ◌∷◌, ◌++◌, ap, append_assoc, drop, get_or, length, sym}
use Rattle.std.specs.List.{flat_map}
use Rattle.std.proofs.lemmas.List.{drop_more}

pub two : (old x y a b : List ℕ) → x ≡ old ++ a → y ≡ x ++ b → y ≡ old ++ (a ++ b)
two old x y a b one last = last ∙ ap (λ (l : List ℕ). l ++ b) one ∙ append_assoc old a b

-- the text of what is left of a list, with one item less
pub more : {X : Type 0} (f : X → List ℕ) (xs : List X) (i : ℕ) (x : X) (old out new : List ℕ) → i < length xs → x ≡ get_or xs i x
    → out ++ flat_map f (drop i xs) ≡ old ++ flat_map f xs → new ≡ out ++ f x
    → new ++ flat_map f (drop (i + 1) xs) ≡ old ++ flat_map f xs
more {X} f xs i x old out new low is so_far adds =
    let left : drop i xs ≡ x ∷ drop (i + 1) xs =
    drop_more xs i x low ∙ ap (λ (y : X). y ∷ drop (i + 1) xs) (sym is) in
    ap (λ (l : List ℕ). l ++ flat_map f (drop (i + 1) xs)) adds
    ∙ append_assoc out (f x) (flat_map f (drop (i + 1) xs))
    ∙ ap (λ (l : List X). out ++ flat_map f l) (sym left) ∙ so_far
