-- What is made of each place of a list, gathered in order, is what a recursion over the list makes.
use Rattle.std.proofs.Common.{◌≡◌, ℕ, suc, ◌+◌, List, [], ◌∷◌, length, map, refl, ap, ◌∙◌, subst, arith, Ok, Result, IfOk, Some}
use Rattle.std.specs.Prelude.{slice_get}
use Rattle.std.specs.List.{AllZip, range_with_len}

-- with the places counted from k
abbrev pub numbered : {X Y : Type 0} (f : ℕ → X → Y) (k : ℕ) → List X → List Y
numbered f k [] = []
numbered f k (x ∷ xs) = f k x ∷ numbered f (k + 1) xs

module _ {X V Y : Type 0} (E : Type 0) (f : ℕ → X → Y) (view : V → Y) where
  -- what a call at a place of the list gives
  abbrev pub IsMade : List X → ℕ → Result V E → Type 0
  IsMade all i r = IfOk r (λ v. (x : X) → slice_get all i ≡ Some x → view v ≡ f i x)

  by_parts : (all : List X) (a : ℕ) (xs : List X) (ps : List V)
      → ((j : ℕ) (x : X) → slice_get xs j ≡ Some x → slice_get all (a + j) ≡ Some x)
      → AllZip {B = Result V E} (IsMade all) (range_with_len a (length xs)) (map Ok ps) → map view ps ≡ numbered f a xs
  by_parts all a [] [] at made = refl
  by_parts all a [] (p ∷ ps) at made = absurd made
  by_parts all a (x ∷ xs) [] at made = absurd made
  by_parts all a (x ∷ xs) (p ∷ ps) at made =
      let first : view p ≡ f a x = made.0 x (ap (λ (n : ℕ). slice_get all n) (omega arith) ∙ at 0 x refl) in
      let rest = by_parts all (a + 1) xs ps (λ j y is. ap (λ (n : ℕ). slice_get all n) (omega arith) ∙ at (suc j) y is) made.1 in
      λ i. first i ∷ rest i

  pub gathered : (all : List X) (rs : List (Result V E)) (ps : List V) → rs ≡ map Ok ps
      → AllZip {B = Result V E} (IsMade all) (range_with_len 0 (length all)) rs → map view ps ≡ numbered f 0 all
  gathered all rs ps is made =
      by_parts all 0 all ps (λ j x at. ap (λ (n : ℕ). slice_get all n) (omega arith) ∙ at)
      (subst (λ (l : List (Result V E)). AllZip {B = Result V E} (IsMade all) (range_with_len 0 (length all)) l) is made)
