-- What is in lists that are made number by number, item by item, or where a test says so.
use Rattle.std.proofs.Common.{◌≡◌, ℕ, zero, suc, ◌+◌, ◌<◌, ◌≤◌, ◌∙◌, List, [], ◌∷◌, Bool, true, false, length, refl, sym, subst, arith}
use Rattle.std.specs.Prelude.{Option, Some, None, if◌then◌else◌}
use mathlib.Core.Logic.{◌⊎◌, inl, inr}
use Rattle.std.specs.Option.{option_map_or}
use Rattle.std.specs.List.{Contains, flat_map}
use Rattle.std.proofs.lemmas.Bool.{cases_eq}
use Rattle.std.proofs.lemmas.List.Elements.{Contains-append_left, Contains-append_right, Contains-append_cases, Contains-push}
use Rattle.std.proofs.lemmas.List.Elements.{Contains-push_cases}
use Rattle.std.proofs.lemmas.Option.{none-some, slice_get_within, slice_get_past}
use Rattle.hub_kinds.specs.declared.codes.ElementCode.{ElementCode}
use Rattle.hub_kinds.specs.declared.fault.ElemFault.{ElemFault}
use Rattle.elem_rules.specs.Rows.{nth}
use Rattle.elem_rules.specs.Found.{up_to, fault, copy_of, reported}
use Rattle.elem_rules.proofs.Steps.{nth-more}

pub no_member : {A : Type 0} (a : A) → Contains [] a → ⊥
no_member a h = let l : h.0 < 0 = h.1 in omega arith

pub contains_one : {A : Type 0} (x a : A) → Contains (x ∷ []) a → a ≡ x
contains_one x a h = elim (Contains-push_cases [] x a h) [ inl e ↦ absurd (no_member a e) | inr e ↦ sym e ]

pub one_contains : {A : Type 0} (x : A) → Contains (x ∷ []) x
one_contains x = Contains-push [] x

pub from_if : {A : Type 0} (b : Bool) (xs ys : List A) (a : A) → Contains (if b then xs else ys) a
    → ((b ≡ true) × Contains xs a) ⊎ ((b ≡ false) × Contains ys a)
from_if true xs ys a h = inl (refl, h)
from_if false xs ys a h = inr (refl, h)

pub in_then : {A : Type 0} (b : Bool) (xs ys : List A) (a : A) → b ≡ true → Contains xs a → Contains (if b then xs else ys) a
in_then b xs ys a e h = subst (λ b. Contains (if b then xs else ys) a) (sym e) h

pub in_else : {A : Type 0} (b : Bool) (xs ys : List A) (a : A) → b ≡ false → Contains ys a → Contains (if b then xs else ys) a
in_else b xs ys a e h = subst (λ b. Contains (if b then xs else ys) a) (sym e) h

pub from_up_to : {A : Type 0} (f : ℕ → List A) (n : ℕ) (a : A) → Contains (up_to f n) a → (k : ℕ) × (1 ≤ k) × (k ≤ n) × Contains (f k) a
from_up_to f zero a h = absurd (no_member a h)
from_up_to f (suc n) a h = elim (Contains-append_cases (up_to f n) (f (suc n)) a h) [
  | inl e ↦ let r = from_up_to f n a e in (r.0, r.1, omega (arith, r.2), r.3)
  | inr e ↦ (suc n, omega arith, omega arith, e)
]

pub in_up_to : {A : Type 0} (f : ℕ → List A) (n k : ℕ) (a : A) → 1 ≤ k → k ≤ n → Contains (f k) a → Contains (up_to f n) a
in_up_to f zero k a from to h = absurd (omega arith)
in_up_to f (suc n) k a from to h = elim (cases_eq k (suc n)) [
  | inl e ↦ Contains-append_right (up_to f n) (f (suc n)) a (subst (λ k. Contains (f k) a) e h)
  | inr e ↦ Contains-append_left (up_to f n) (f (suc n)) a (in_up_to f n k a from (omega arith) h)
]

pub from_flat_map : {X A : Type 0} (f : X → List A) (xs : List X) (a : A) → Contains (flat_map f xs) a
    → (x : X) × Contains xs x × Contains (f x) a
from_flat_map f [] a h = absurd (no_member a h)
from_flat_map f (x ∷ xs) a h = elim (Contains-append_cases (f x) (flat_map f xs) a h) [
  | inl e ↦ (x, Contains-append_left (x ∷ []) xs x (one_contains x), e)
  | inr e ↦ let r = from_flat_map f xs a e in (r.0, Contains-append_right (x ∷ []) xs r.0 r.1, r.2)
]

pub in_flat_map : {X A : Type 0} (f : X → List A) (xs : List X) (x : X) (a : A) → Contains xs x → Contains (f x) a
    → Contains (flat_map f xs) a
in_flat_map f [] x a there h = absurd (no_member x there)
in_flat_map f (y ∷ xs) x a there h = elim (Contains-append_cases (y ∷ []) xs x there) [
  | inl e ↦ Contains-append_left (f y) (flat_map f xs) a (subst (λ x. Contains (f x) a) (contains_one y x e) h)
  | inr e ↦ Contains-append_right (f y) (flat_map f xs) a (in_flat_map f xs x a e h)
]

pub from_option : {X A : Type 0} (g : X → List A) (o : Option X) (a : A) → Contains (option_map_or g o []) a
    → (x : X) × (o ≡ Some x) × Contains (g x) a
from_option g None a h = absurd (no_member a h)
from_option g (Some x) a h = (x, refl, h)

pub in_option : {X A : Type 0} (g : X → List A) (o : Option X) (x : X) (a : A) → o ≡ Some x → Contains (g x) a
    → Contains (option_map_or g o []) a
in_option g o x a e h = subst (λ o. Contains (option_map_or g o []) a) (sym e) h

pub from_reported : (e c r : ℕ) (reference text : List ℕ) (o : Option ElementCode) (f : ElemFault)
    → Contains (reported e c r reference text o) f
    → (code : ElementCode) × (o ≡ Some code) × (f ≡ fault e c r code reference (copy_of code text))
from_reported e c r reference text None f h = absurd (no_member f h)
from_reported e c r reference text (Some code) f h = (code, refl, contains_one _ f h)

pub in_reported : (e c r : ℕ) (reference text : List ℕ) (o : Option ElementCode) (code : ElementCode) → o ≡ Some code
    → Contains (reported e c r reference text o) (fault e c r code reference (copy_of code text))
in_reported e c r reference text o code is =
    subst (λ o. Contains (reported e c r reference text o) (fault e c r code reference (copy_of code text))) (sym is) (one_contains _)

pub nth_within : {X : Type 0} (xs : List X) (n : ℕ) (x : X) → nth xs n ≡ Some x → (1 ≤ n) × (n ≤ length xs)
nth_within xs zero x h = absurd (none-some x h)
nth_within xs (suc n) x h = let l = slice_get_within xs n x h in (omega arith, omega arith)

pub nth_past : {X : Type 0} (xs : List X) → nth xs (length xs + 1) ≡ None
nth_past xs = nth-more xs (length xs) ∙ slice_get_past xs (length xs) (omega arith)

pub nth_there : {X : Type 0} (xs : List X) (n : ℕ) → 1 ≤ n → n ≤ length xs → (x : X) × (nth xs n ≡ Some x)
nth_there [] n from to = absurd (omega arith)
nth_there (x ∷ xs) zero from to = absurd (omega arith)
nth_there (x ∷ xs) (suc zero) from to = (x, refl)
nth_there (x ∷ xs) (suc (suc n)) from to = let r = nth_there xs (suc n) (omega arith) (omega arith) in (r.0, r.1)
