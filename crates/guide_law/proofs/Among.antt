-- What stands in lists that are made of others.
use Rattle.std.proofs.Common.{⊎_elim, ◌≡◌, ℕ, zero, suc, ◌<◌, ◌⊎◌, inl, inr, List, [], ◌∷◌, ◌++◌, map, refl, ap, arith}
use Rattle.std.specs.List.{Contains}
use Rattle.std.proofs.lemmas.List.Elements.{Contains-append_right}
use Rattle.std.specs.Prelude.{length, slice_index_or}
use Rattle.guide_tree.proofs.ForAbove.{In}

pub in_left : {X : Type 0} (xs ys : List X) (q : X) → In xs q → In (xs ++ ys) q
in_left [] ys q h = absurd h
in_left (x ∷ xs) ys q (inl e) = inl e
in_left (x ∷ xs) ys q (inr h) = inr (in_left xs ys q h)

pub in_right : {X : Type 0} (xs ys : List X) (q : X) → In ys q → In (xs ++ ys) q
in_right [] ys q h = h
in_right (x ∷ xs) ys q h = inr (in_right xs ys q h)

pub in_cases : {X : Type 0} (xs ys : List X) (q : X) → In (xs ++ ys) q → In xs q ⊎ In ys q
in_cases [] ys q h = inr h
in_cases (x ∷ xs) ys q (inl e) = inl (inl e)
in_cases (x ∷ xs) ys q (inr h) = ⊎_elim (λ a. inl (inr a)) (λ b. inr b) (in_cases xs ys q h)

pub in_map : {X Y : Type 0} (f : X → Y) (xs : List X) (x : X) → In xs x → In (map f xs) (f x)
in_map f [] x h = absurd h
in_map f (y ∷ xs) x (inl e) = inl (ap f e)
in_map f (y ∷ xs) x (inr h) = inr (in_map f xs x h)

pub record From {X Y : Type 0} (f : X → Y) (xs : List X) (y : Y) : Type 0 where
  pub value : X
  pub there : In xs value
  pub is : f value ≡ y

pub in_mapped : {X Y : Type 0} (f : X → Y) (xs : List X) (y : Y) → In (map f xs) y → From f xs y
in_mapped f [] y h = absurd h
in_mapped f (x ∷ xs) y (inl e) = record { value = x; there = inl refl; is = e }
in_mapped f (x ∷ xs) y (inr h) = let r = in_mapped f xs y h in record { value = r.value; there = inr r.there; is = r.is }

pub in_contains : {X : Type 0} (xs : List X) (q : X) → In xs q → Contains xs q
in_contains [] q h = absurd h
in_contains (x ∷ xs) q (inl e) = (0, (let l : 0 < suc (length xs) = omega arith in l), e)
in_contains (x ∷ xs) q (inr h) = Contains-append_right (x ∷ []) xs q (in_contains xs q h)

at_in : {X : Type 0} (xs : List X) (q : X) (k : ℕ) → k < length xs → slice_index_or xs k q ≡ q → In xs q
at_in [] q k l e = absurd (omega arith)
at_in (x ∷ xs) q zero l e = inl e
at_in (x ∷ xs) q (suc k) l e = inr (at_in xs q k (omega arith) e)

pub contains_in : {X : Type 0} (xs : List X) (q : X) → Contains xs q → In xs q
contains_in xs q h = at_in xs q h.0 h.1 h.2
