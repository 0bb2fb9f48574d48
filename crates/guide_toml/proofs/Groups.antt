-- The first part of a list round separators, and the parts after it.
use Rattle.std.proofs.Common.{◌≡◌, ℕ, zero, suc, ◌+◌, ◌<◌, ◌≤◌, ◌⊎◌, inl, inr, List, [], ◌∷◌, length, take, drop, refl, sym, ap}
use Rattle.std.proofs.Common.{◌∙◌, arith, Bool}
use Rattle.std.proofs.lemmas.List.{take_all}
use Rattle.std.proofs.lemmas.List.Sums.{prefix_len-le-length}
use Rattle.std.proofs.lemmas.List.Splits.{slice_split_first}
use Rattle.std.specs.List.{slice_split, position_or_len}
use Rattle.guide_toml.proofs.Cuts.{last_part}

below_or_at : (n m : ℕ) → n ≤ m → (n < m) ⊎ (n ≡ m)
below_or_at zero zero h = inr refl
below_or_at zero (suc m) h = inl (omega arith)
below_or_at (suc n) zero h = absurd (omega arith)
below_or_at (suc n) (suc m) h =
    elim (below_or_at n m (omega arith)) [ inl l ↦ inl (omega arith) | inr e ↦ inr (ap suc e) ]

-- the first part
pub record FirstPart {X : Type 0} (p : X → Bool) (xs : List X) : Type 0 where
  pub more : List (List X)
  pub is : slice_split p xs ≡ take (position_or_len p xs) xs ∷ more

pub first_part : {X : Type 0} (p : X → Bool) (xs : List X) (d : X) → FirstPart p xs
first_part p xs d = elim (below_or_at (position_or_len p xs) (length xs) (prefix_len-le-length _ xs)) [
  | inl l ↦ record { more = slice_split p (drop (position_or_len p xs + 1) xs); is = slice_split_first p xs d l }
  | inr e ↦ record {
    more = [];
    is = last_part p xs e
        ∙ ap (λ (x : List _). x ∷ []) (sym (take_all (position_or_len p xs) xs (omega arith)));
  }
]
