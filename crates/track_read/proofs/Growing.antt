-- A text and a list with one item more.
use Rattle.std.proofs.Common.{◌≡◌, ◌∙◌, ℕ, ◌+◌, ◌<◌, zero, suc, List, [], ◌∷◌}
use Rattle.std.proofs.Common.{◌++◌, ap, append_assoc, arith, get_or, length, map, refl, sym, take}
use Rattle.std.specs.List.{flat_map}
use Rattle.std.specs.Option.{unwrap_or}
use Rattle.std.proofs.lemmas.Grind.{flat_map-append}
use Rattle.std.proofs.lemmas.List.{append-nil, map-append, take_more}
use Rattle.csv.specs.Records.{field_at}

-- what is written of one more item
pub flat_more : {Y : Type 0} (text : Y → List ℕ) (ys zs : List Y) (y : Y) (start old new : List ℕ) → zs ≡ ys ++ y ∷ []
    → old ≡ start ++ flat_map text ys → new ≡ old ++ text y → new ≡ start ++ flat_map text zs
flat_more {Y} text ys zs y start old new more so_far adds =
    adds ∙ ap (λ (t : List ℕ). t ++ text y) so_far ∙ append_assoc start (flat_map text ys) (text y)
    ∙ ap (λ (t : List ℕ). start ++ (flat_map text ys ++ t)) (sym (append-nil (text y)))
    ∙ ap (λ (t : List ℕ). start ++ t) (sym (flat_map-append text ys (y ∷ [])))
    ∙ ap (λ (l : List Y). start ++ flat_map text l) (sym more)

pub taken : {X Y : Type 0} (f : X → Y) (xs : List X) (i : ℕ) (x d : X) → i < length xs → x ≡ get_or xs i d
    → map f (take (i + 1) xs) ≡ map f (take i xs) ++ f x ∷ []
taken {X} f xs i x d low is =
    ap (map f) (take_more xs i d low ∙ ap (λ (k : X). take i xs ++ k ∷ []) (sym is)) ∙ map-append f (take i xs) (x ∷ [])

pub taken_twice : {X Y Z : Type 0} (f : X → Y) (g : Y → Z) (xs : List X) (i : ℕ) (x d : X) → i < length xs → x ≡ get_or xs i d
    → map g (map f (take (i + 1) xs)) ≡ map g (map f (take i xs)) ++ g (f x) ∷ []
taken_twice f g xs i x d low is = ap (map g) (taken f xs i x d low is) ∙ map-append g (map f (take i xs)) (f x ∷ [])

pub field_is : (fields : List (List ℕ)) (i : ℕ) → i < length fields → unwrap_or (field_at fields i) [] ≡ get_or fields i []
unfolding field_at
field_is [] i low = absurd (omega (arith, low))
field_is (f ∷ fs) zero low = refl
field_is (f ∷ fs) (suc i) low = field_is fs i (omega (arith, low))

-- one more field that is lent
pub lent_more : {X : Type 0} (see : X → List ℕ) (fields : List (List ℕ)) (old new : List X) (x : X) (i : ℕ) → i < length fields
    → map see old ≡ take i fields → new ≡ old ++ x ∷ [] → see x ≡ unwrap_or (field_at fields i) []
    → map see new ≡ take (i + 1) fields
lent_more {X} see fields old new x i low so_far adds is =
    ap (map see) adds ∙ map-append see old (x ∷ []) ∙ ap (λ (l : List (List ℕ)). l ++ see x ∷ []) so_far
    ∙ ap (λ (f : List ℕ). take i fields ++ f ∷ []) (is ∙ field_is fields i low) ∙ sym (take_more fields i [] low)
