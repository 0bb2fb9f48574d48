-- What stands in a list, by recursion, and tests of lists.
use Rattle.std.proofs.Common.{◌≡◌, ◌⊎◌, inl, inr, Bool, true, List, [], ◌∷◌, refl, sym, ap, ◌∙◌}
use Rattle.std.specs.List.{list_any, list_all}
use Rattle.std.proofs.lemmas.Bool.{and_parts, and_from, or_cases, or_left, or_right}

abbrev pub In : {X : Type 0} → List X → X → Type 0
In [] x = ⊥
In (y ∷ ys) x = (y ≡ x) ⊎ In ys x

pub record Found {X : Type 0} (test : X → Bool) (xs : List X) : Type 0 where
  pub one : X
  pub among : In xs one
  pub passes : test one ≡ true

pub any_found : {X : Type 0} (test : X → Bool) (xs : List X) → list_any test xs ≡ true → Found test xs
any_found test [] h = cc
any_found test (x ∷ xs) h = elim (or_cases (test x) (list_any test xs) h) [
  | inl e ↦ record { one = x; among = inl refl; passes = e }
  | inr e ↦ (let r = any_found test xs e in record { one = r.one; among = inr r.among; passes = r.passes })
]

pub found_any : {X : Type 0} (test : X → Bool) (xs : List X) (x : X) → In xs x → test x ≡ true → list_any test xs ≡ true
found_any test [] x i h = absurd i
found_any test (y ∷ ys) x (inl e) h = or_left (test y) (list_any test ys) (ap test e ∙ h)
found_any test (y ∷ ys) x (inr i) h = or_right (test y) (list_any test ys) (found_any test ys x i h)

pub all_at : {X : Type 0} (test : X → Bool) (xs : List X) (x : X) → list_all test xs ≡ true → In xs x → test x ≡ true
all_at test [] x h i = absurd i
all_at test (y ∷ ys) x h (inl e) = ap test (sym e) ∙ (and_parts (test y) (list_all test ys) h).0
all_at test (y ∷ ys) x h (inr i) = all_at test ys x (and_parts (test y) (list_all test ys) h).1 i

pub each_all : {X : Type 0} (test : X → Bool) (xs : List X) → ((x : X) → In xs x → test x ≡ true) → list_all test xs ≡ true
each_all test [] f = refl
each_all test (y ∷ ys) f = and_from (test y) (list_all test ys) (f y (inl refl)) (each_all test ys (λ x i. f x (inr i)))
