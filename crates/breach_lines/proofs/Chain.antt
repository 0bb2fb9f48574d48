-- Texts that are appended one after another, and a line for each of a list.
use Rattle.std.proofs.Common.{◌≡◌, ℕ, ◌+◌, ◌<◌, List, [], ◌∷◌, ◌++◌, ◌∙◌, ap, append_assoc, get_or, length, sym, take}
use Rattle.std.specs.List.{flat_map}
use Rattle.std.proofs.lemmas.List.{flat_map_more, take_more}

pub two : (old x y a b : List ℕ) → x ≡ old ++ a → y ≡ x ++ b → y ≡ old ++ (a ++ b)
two old x y a b one last = last ∙ ap (λ (l : List ℕ). l ++ b) one ∙ append_assoc old a b

pub three : (old x y z a b c : List ℕ) → x ≡ old ++ a → y ≡ x ++ b → z ≡ y ++ c → z ≡ old ++ (a ++ (b ++ c))
three old x y z a b c one then last = two old x z a (b ++ c) one (two x y z b c then last)

pub line_more : {X : Type 0} (f : X → List ℕ) (xs : List X) (i : ℕ) (x : X) (old was now : List ℕ) → i < length xs → x ≡ get_or xs i x
    → was ≡ old ++ flat_map f (take i xs) → now ≡ was ++ f x → now ≡ old ++ flat_map f (take (i + 1) xs)
line_more {X} f xs i x old was now low is so_far adds =
    let longer : take (i + 1) xs ≡ take i xs ++ x ∷ [] = take_more xs i x low ∙ ap (λ (y : X). take i xs ++ y ∷ []) (sym is) in
    adds ∙ ap (λ (l : List ℕ). l ++ f x) so_far ∙ flat_map_more f old (take i xs) x
    ∙ ap (λ (l : List X). old ++ flat_map f l) (sym longer)
