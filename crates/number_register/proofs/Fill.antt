-- Books are made for a list, one by one; there is no key in any of them.
use Rattle.std.proofs.Common.{◌≡◌, ℕ, zero, suc, ◌+◌, List, [], ◌∷◌, ◌++◌, length, map, take, replicate, Option, Some, None}
use Rattle.std.proofs.Common.{refl, sym, ap, ◌∙◌}
use Rattle.std.specs.Prelude.{slice_get}
use Rattle.std.proofs.lemmas.List.{map-append, take_more}
use Rattle.std.proofs.lemmas.Option.{get_or_from_slice_get, none-some, slice_get_within}

pub mapped_more : {A B : Type 0} (f : A → B) (xs : List A) (k : ℕ) (x : A) (old new : List B) → slice_get xs k ≡ Some x
    → old ≡ map f (take k xs) → new ≡ old ++ f x ∷ [] → new ≡ map f (take (k + 1) xs)
mapped_more {A} {B} f xs k x old new is so_far pushed =
    pushed ∙ ap (λ (l : List B). l ++ f x ∷ []) so_far
    ∙ sym (map-append f (take k xs) (x ∷ []))
    ∙ ap (λ (y : A). map f (take k xs ++ y ∷ [])) (sym (get_or_from_slice_get xs k x x is))
    ∙ ap (map f) (sym (take_more xs k x (slice_get_within xs k x is)))

pub absent_at : {A V K : Type 0} (f : A → V) (xs : List A) (j : ℕ) (v : V) → slice_get (map f xs) j ≡ Some v
    → slice_get (replicate {A = Option K} (length xs) None) j ≡ Some None
absent_at f [] j v is = absurd (none-some v is)
absent_at f (x ∷ xs) zero v is = refl
absent_at f (x ∷ xs) (suc j) v is = absent_at f xs j v is
