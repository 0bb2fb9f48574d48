-- A test of each element of a list, one by one.
use Rattle.std.proofs.Common.{◌≡◌, ℕ, ◌+◌, List, Bool, true, false, ◌&&◌, Option, Some, None, take, get_or, refl, ap, ◌∙◌}
use Rattle.std.specs.Prelude.{option_map, slice_get}
use Rattle.std.specs.List.{list_all}
use Rattle.std.proofs.lemmas.List.Folds.{list_all_at, list_all_more}
use Rattle.std.proofs.lemmas.Option.{get_or_from_slice_get, slice_get_within}

-- one that fails the test
pub one_fails : {A : Type 0} (p : A → Bool) (xs : List A) (i : ℕ) (x : A) → slice_get xs i ≡ Some x → p x ≡ false → list_all p xs ≡ false
one_fails p xs i x is fails = list_all_at p xs i x (slice_get_within xs i x is) (ap p (get_or_from_slice_get xs i x x is) ∙ fails)

-- one more that passes it
pub one_passes : {A : Type 0} (p : A → Bool) (xs : List A) (i : ℕ) (x : A) → slice_get xs i ≡ Some x → p x ≡ true
    → list_all p (take i xs) ≡ true → list_all p (take (i + 1) xs) ≡ true
one_passes p xs i x is passes before =
    list_all_more p xs i x (slice_get_within xs i x is) ∙ ap (λ (b : Bool). b && p (get_or xs i x)) before
    ∙ ap p (get_or_from_slice_get xs i x x is) ∙ passes

-- the same where a part of it is tested, and is all that is known of it
at_part : {A B : Type 0} (f : A → B) (xs : List A) (i : ℕ) (y : B) (P : Type 0) → option_map f (slice_get xs i) ≡ Some y
    → ((x : A) → slice_get xs i ≡ Some x → f x ≡ y → P) → P
at_part {A} f xs i y P is then = by (slice_get xs i) refl is
  where
    by : (o : Option A) → slice_get xs i ≡ o → option_map f o ≡ Some y → P
    by None at none = cc
    by (Some x) at same = then x at (let part : f x ≡ y = cc in part)

pub part_fails : {A B : Type 0} (f : A → B) (p : B → Bool) (xs : List A) (i : ℕ) (y : B) → option_map f (slice_get xs i) ≡ Some y
    → p y ≡ false → list_all (λ x. p (f x)) xs ≡ false
part_fails f p xs i y is fails =
    at_part f xs i y (list_all (λ x. p (f x)) xs ≡ false) is (λ x at part. one_fails (λ x. p (f x)) xs i x at (ap p part ∙ fails))

pub part_passes : {A B : Type 0} (f : A → B) (p : B → Bool) (xs : List A) (i : ℕ) (y : B) → option_map f (slice_get xs i) ≡ Some y
    → p y ≡ true → list_all (λ x. p (f x)) (take i xs) ≡ true → list_all (λ x. p (f x)) (take (i + 1) xs) ≡ true
part_passes f p xs i y is passes before =
    at_part f xs i y (list_all (λ x. p (f x)) (take (i + 1) xs) ≡ true) is
    (λ x at part. one_passes (λ x. p (f x)) xs i x at (ap p part ∙ passes) before)
