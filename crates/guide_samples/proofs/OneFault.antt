-- A list of one item has that item, and no other.
use Rattle.std.proofs.Common.{◌≡◌, ℕ, List, [], ◌∷◌, length, sym, ap, arith}
use Rattle.std.specs.Prelude.{slice_index_or}

pub one_item : {A : Type 0} (xs : List A) (x : A) → length xs ≡ 1 → ((d : A) → x ≡ slice_index_or xs 0 d) → xs ≡ x ∷ []
one_item [] x one is = absurd (omega (arith, one))
one_item (y ∷ []) x one is = ap (λ z. z ∷ []) (sym (is y))
one_item (y ∷ z ∷ zs) x one is = absurd (omega (arith, one))
