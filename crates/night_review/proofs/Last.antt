-- What is taken from the end of a list is its last item.
use Rattle.std.proofs.Common.{◌≡◌, ℕ, ◌+◌, ◌++◌, ◌-◌, ◌∙◌, List, [], ◌∷◌, Option, Some, None, ap, arith, length}
use Rattle.std.proofs.Common.{length-append, refl, suc, sym}
use Rattle.std.specs.Prelude.{MatchOption, option_to_list, slice_get}
use Rattle.std.proofs.lemmas.Option.{slice_get_past}

last_get : {X : Type 0} (xs : List X) (x : X) → slice_get (xs ++ x ∷ []) (length (xs ++ x ∷ []) - 1) ≡ Some x
last_get [] x = refl
last_get {X} (y ∷ ys) x =
    let one : length (y ∷ (ys ++ x ∷ [])) - 1 ≡ suc (length ys) = omega (arith, length-append {A = X}) in
    let two : length ys ≡ length (ys ++ x ∷ []) - 1 = omega (arith, length-append {A = X}) in
    ap (slice_get (y ∷ (ys ++ x ∷ []))) one ∙ ap (slice_get (ys ++ x ∷ [])) two ∙ last_get ys x

pub popped : {X : Type 0} (old new : List X) (last : Option X) (n m : ℕ) → n ≡ length old → old ≡ new ++ option_to_list last
    → MatchOption last ((n ≡ 0) × (m ≡ 0)) (λ _. m + 1 ≡ n) → last ≡ slice_get old (length old - 1)
popped old new None n m long is none = sym (slice_get_past old (length old - 1) (omega (arith, none.0)))
popped {X} old new (Some x) n m long is some =
    sym (ap (λ (l : List X). slice_get l (length l - 1)) is ∙ last_get new x)
