-- Lists whose items belong together, joined and mapped.
use Rattle.std.proofs.Common.{◌≡◌, ℕ, zero, suc, ◌+◌, ◌-◌, ◌<◌, List, [], ◌∷◌, ◌++◌, Some, length, map, take}
use Rattle.std.proofs.Common.{refl, sym, ap, subst, ◌∙◌, arith, inl, inr}
use Rattle.std.specs.Prelude.{slice_get}
use Rattle.std.proofs.lemmas.Bool.{cases_lt}
use Rattle.std.proofs.lemmas.List.{length-append, length-map}
use Rattle.set_answers.specs.Pairs.{AreAllPairs}

-- the items of mapped lists
pub get_mapped : {A B : Type 0} (f : A → B) (xs : List A) (n : ℕ) (y : B) → slice_get (map f xs) n ≡ Some y
    → (x : A) × (slice_get xs n ≡ Some x) × (f x ≡ y)
get_mapped f [] n y is = absurd (let no : ⊥ = (cc) in no)
get_mapped f (x ∷ xs) zero y is = (x, refl, (let same : f x ≡ y = (cc) in same))
get_mapped f (x ∷ xs) (suc n) y is = get_mapped f xs n y is

pub take_mapped : {A B : Type 0} (f : A → B) (n : ℕ) (xs : List A) → take n (map f xs) ≡ map f (take n xs)
take_mapped f zero xs = refl
take_mapped f (suc n) [] = refl
take_mapped f (suc n) (x ∷ xs) = ap (λ l. f x ∷ l) (take_mapped f n xs)

pub pairs_mapped : {A B C D : Type 0} (R : ℕ → A → B → Type 0) (S : ℕ → C → D → Type 0) (f : A → C) (g : B → D)
    → (xs : List A) (ys : List B)
    → ((n : ℕ) (x : A) (y : B) → slice_get xs n ≡ Some x → R n x y → S n (f x) (g y)) → AreAllPairs R xs ys
    → AreAllPairs S (map f xs) (map g ys)
pairs_mapped R S f g xs ys each all = record {
  count = length-map ys g ∙ all.count ∙ sym (length-map xs f);
  each = λ n c d is_c is_d.
      (let x = get_mapped f xs n c is_c in let y = get_mapped g ys n d is_d in
      subst (S n c) y.2 (subst (λ z. S n z (g y.0)) x.2 (each n x.0 y.0 x.1 (all.each n x.0 y.0 x.1 y.1))));
}

pub pairs_first_mapped : {A B C : Type 0} (R : ℕ → A → B → Type 0) (S : ℕ → C → B → Type 0) (f : A → C)
    → (xs : List A) (ys : List B)
    → ((n : ℕ) (x : A) (y : B) → slice_get xs n ≡ Some x → R n x y → S n (f x) y) → AreAllPairs R xs ys → AreAllPairs S (map f xs) ys
pairs_first_mapped R S f xs ys each all = record {
  count = all.count ∙ sym (length-map xs f);
  each = λ n c y is_c is_y.
      (let x = get_mapped f xs n c is_c in subst (λ z. S n z y) x.2 (each n x.0 y x.1 (all.each n x.0 y x.1 is_y)));
}

get_first : {A : Type 0} (xs ys : List A) (n : ℕ) → n < length xs → slice_get (xs ++ ys) n ≡ slice_get xs n
get_first [] ys n lt = absurd (omega (arith, lt))
get_first (x ∷ xs) ys zero lt = refl
get_first (x ∷ xs) ys (suc n) lt = get_first xs ys n (omega (arith, lt))

get_second : {A : Type 0} (xs ys : List A) (n : ℕ) → slice_get (xs ++ ys) (length xs + n) ≡ slice_get ys n
get_second [] ys n = ap (slice_get ys) (let z : 0 + n ≡ n = omega arith in z)
get_second (x ∷ xs) ys n =
    ap (slice_get (x ∷ (xs ++ ys))) (let s : suc (length xs) + n ≡ suc (length xs + n) = omega arith in s) ∙ get_second xs ys n

-- where what is asked of two items isn't asked of their number
pub pairs_joined : {A B : Type 0} (R : A → B → Type 0) (xs xs' : List A) (ys ys' : List B) → AreAllPairs (λ n x y. R x y) xs ys
    → AreAllPairs (λ n x y. R x y) xs' ys' → AreAllPairs (λ n x y. R x y) (xs ++ xs') (ys ++ ys')
pairs_joined R xs xs' ys ys' first second = record {
  count = (let n : length (ys ++ ys') ≡ length (xs ++ xs') =
      omega (arith, length-append ys ys', length-append xs xs', first.count, second.count) in n);
  each = λ n x y is_x is_y. elim (cases_lt n (length xs)) [
    | inl lt ↦ first.each n x y (sym (get_first xs xs' n lt) ∙ is_x) (sym (get_first ys ys' n (omega (arith, lt, first.count))) ∙ is_y)
    | inr ge ↦
        let at : length xs + (n - length xs) ≡ n = omega (arith, ge) in
        let at_y : length ys + (n - length xs) ≡ n = omega (arith, ge, first.count) in
        second.each (n - length xs) x y
        (sym (get_second xs xs' (n - length xs)) ∙ ap (slice_get (xs ++ xs')) at ∙ is_x)
        (sym (get_second ys ys' (n - length xs)) ∙ ap (slice_get (ys ++ ys')) at_y ∙ is_y)
  ];
}
