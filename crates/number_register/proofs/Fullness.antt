-- Where a test doesn't hold of each item there is one of which it doesn't.
use Rattle.std.proofs.Common.{◌≡◌, ◌&&◌, inl, inr, Bool, true, false, List, [], ◌∷◌, sym, true≢false}
use Rattle.std.specs.Prelude.{Contains}
use Rattle.std.specs.List.{list_all}
use Rattle.std.proofs.lemmas.Bool.{cases_Bool}
use Rattle.number_register.proofs.ForAbove.{in_back, in_front}

behind : (a b : Bool) → a ≡ true → (a && b) ≡ false → b ≡ false
behind true b e h = h
behind false b e h = absurd (true≢false (sym e))

pub not_all : {A : Type 0} (f : A → Bool) (xs : List A) → list_all f xs ≡ false → (y : A) × Contains xs y × (f y ≡ false)
not_all f [] h = absurd (true≢false h)
not_all f (x ∷ xs) h = elim (cases_Bool (f x)) [
  | inl e ↦ let rest = not_all f xs (behind (f x) (list_all f xs) e h) in (rest.0, in_back x xs rest.0 rest.1, rest.2)
  | inr e ↦ (x, in_front x xs, e)
]
