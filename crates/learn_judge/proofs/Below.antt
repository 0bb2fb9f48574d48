-- What holds of the items of a list up to one, and of that one, holds up to the next.
use Rattle.std.proofs.Common.{◌≡◌, ◌∙◌, ◌<◌, ◌≤◌, ◌+◌, ℕ, suc, List, [], ◌∷◌, ◌++◌, length, take, get_or}
use Rattle.std.proofs.Common.{Option, None, Some, is_some, false}
use Rattle.std.proofs.Common.{refl, ap, subst, sym, arith}
use Rattle.std.specs.List.{All, slice_get}
use Rattle.std.proofs.Math.Seq.{take-suc}
use Rattle.std.proofs.lemmas.List.Elements.{All-push}
use Rattle.std.proofs.lemmas.List.{take_all}
use Rattle.std.proofs.lemmas.Option.{get_or_from_slice_get, slice_get_read, slice_get_within}

pub one_more : {A : Type 0} (P : A → Type 0) (xs : List A) (k : ℕ) (x : A) → All P (take k xs) → slice_get xs k ≡ Some x → P x
    → All P (take (k + 1) xs)
one_more P xs k x all there holds =
    let next : k + 1 ≡ suc k = omega arith in
    let step : take (k + 1) xs ≡ take k xs ++ x ∷ [] =
    ap (λ n. take n xs) next ∙ take-suc xs k x (slice_get_within xs k x there)
    ∙ ap (λ y. take k xs ++ y ∷ []) (get_or_from_slice_get xs k x x there) in
    subst (All P) (sym step) (All-push P (take k xs) x all holds)

-- likewise, where the item is known by its index
pub one_more_at : {A : Type 0} (P : A → Type 0) (xs : List A) (k : ℕ) (x : A) → All P (take k xs) → k < length xs → x ≡ get_or xs k x
    → P x → All P (take (k + 1) xs)
one_more_at P xs k x all within at holds = one_more P xs k x all (slice_get_read xs (length xs) k x refl within at) holds

pub all_of : {A : Type 0} (P : A → Type 0) (xs : List A) (k : ℕ) → length xs ≤ k → All P (take k xs) → All P xs
all_of P xs k end all = subst (All P) (take_all k xs end) all

pub holds_at : {A : Type 0} (P : A → Type 0) (xs : List A) (k : ℕ) (x : A) → All P xs → slice_get xs k ≡ Some x → P x
holds_at P xs k x all there = subst P (get_or_from_slice_get xs k x x there) (all k x (slice_get_within xs k x there))

pub is_none : {A : Type 0} (o : Option A) → is_some o ≡ false → o ≡ None
is_none None e = refl
is_none (Some x) e = cc
