-- What is known of the first fault of its key in a list that is put together of two.
use Rattle.std.proofs.Common.{◌≡◌, ◌⊎◌, inl, inr, List, [], ◌∷◌, ◌++◌, sym, ap, ◌∙◌, subst}
use Rattle.std.specs.List.{Contains}
use Rattle.std.proofs.lemmas.List.{append_assoc, append-nil}
use Rattle.std.proofs.lemmas.List.Elements.{Contains-append_left}
use Rattle.hub_kinds.specs.declared.fault.Fault.{Fault}
use Rattle.guide_tree.proofs.ForAbove.{In}
use Rattle.guide_law.proofs.ForAbove.{in_contains}
use Rattle.night_definition.specs.Codes.{key_of}
use Rattle.night_equal_set.specs.Order.{IsFirstBehind}

in_first : (before xs : List Fault) (f : Fault) → IsFirstBehind before xs f → In xs f
in_first before [] f h = absurd h
in_first before (x ∷ xs) f (inl h) = inl (sym h.0)
in_first before (x ∷ xs) f (inr h) = inr (in_first (before ++ x ∷ []) xs f h)

pub first_is_there : (before xs : List Fault) (f : Fault) → IsFirstBehind before xs f → Contains xs f
first_is_there before xs f h = in_contains xs f (in_first before xs f h)

-- none before it has its key
pub first_is_alone : (before xs : List Fault) (f : Fault) → IsFirstBehind before xs f → (z : Fault) → Contains before z
    → key_of z ≡ key_of f → ⊥
first_is_alone before [] f h z c k = absurd h
first_is_alone before (x ∷ xs) f (inl h) z c k = h.1 z c (k ∙ ap key_of h.0)
first_is_alone before (x ∷ xs) f (inr h) z c k =
    first_is_alone (before ++ x ∷ []) xs f h z (Contains-append_left before (x ∷ []) z c) k

-- it is one of the first list, or one of the second, after the first
pub first_of_two : (before xs ys : List Fault) (f : Fault) → IsFirstBehind before (xs ++ ys) f
    → IsFirstBehind before xs f ⊎ IsFirstBehind (before ++ xs) ys f
first_of_two before [] ys f h = inr (subst (λ l. IsFirstBehind l ys f) (sym (append-nil before)) h)
first_of_two before (x ∷ xs) ys f (inl h) = inl (inl h)
first_of_two before (x ∷ xs) ys f (inr h) = elim (first_of_two (before ++ x ∷ []) xs ys f h) [
  | inl g ↦ inl (inr g)
  | inr g ↦ inr (subst (λ l. IsFirstBehind l ys f) (append_assoc before (x ∷ []) xs) g)
]
