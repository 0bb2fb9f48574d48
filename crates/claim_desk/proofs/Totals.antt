-- Totals over views, one of which changes.
use Rattle.std.proofs.Common.{◌≡◌, ℕ, zero, suc, ◌+◌, ◌≤◌, List, [], ◌∷◌, ◌++◌, set, sym, refl, ap, arith}
use Rattle.std.proofs.lemmas.Bool.Decides.{nat_tests}
use mathlib.Core.Option.{some, some-injective, some-ne-none}
use lib.ListN.{get_elem?}
use Rattle.claim_desk.specs.declared.rule.View.{View}
use Rattle.claim_desk.specs.Seats.{times, once_below}
use Rattle.claim_desk.specs.Rule.{total}

pub total_set : (f : View → ℕ) (views : List View) (k : ℕ) (v w : View) → get_elem? views k ≡ some v
    → total f (set views k w) + f v ≡ total f views + f w
total_set f [] k v w e = absurd (some-ne-none v (sym e))
total_set f (x ∷ xs) zero v w e = let s = ap f (some-injective x v e) in omega arith
total_set f (x ∷ xs) (suc k) v w e = let h = total_set f xs k v w e in omega arith

pub total_snoc : (f : View → ℕ) (views : List View) (w : View) → total f (views ++ w ∷ []) ≡ total f views + f w
total_snoc f [] w = omega arith
total_snoc f (x ∷ xs) w = let h = total_snoc f xs w in omega arith

pub total_le : (f g : View → ℕ) (views : List View) → ((k : ℕ) (v : View) → get_elem? views k ≡ some v → f v ≤ g v)
    → total f views ≤ total g views
total_le f g [] h = omega arith
total_le f g (x ∷ xs) h = let rest = total_le f g xs (λ k v e. h (suc k) v e) in let here = h 0 x refl in omega arith

pub total_at : (f : View → ℕ) (views : List View) (k : ℕ) (v : View) → get_elem? views k ≡ some v → f v ≤ total f views
total_at f [] k v e = absurd (some-ne-none v (sym e))
total_at f (x ∷ xs) zero v e = let s = ap f (some-injective x v e) in omega arith
total_at f (x ∷ xs) (suc k) v e = let h = total_at f xs k v e in omega arith

pub total_none : (f g : View → ℕ) (views : List View) → total f views ≡ 0 → ((k : ℕ) (v : View) → get_elem? views k ≡ some v → f v ≡ 0
    → g v ≡ 0) → total g views ≡ 0
total_none f g [] z h = refl
total_none f g (x ∷ xs) z h = let rest = total_none f g xs (omega arith) (λ k v e. h (suc k) v e) in
    let here = h 0 x refl (omega arith) in omega arith

-- where one view has all of f, and g is 0 where f is, it has all of g
pub total_only : (f g : View → ℕ) (views : List View) (k : ℕ) (v : View) → get_elem? views k ≡ some v → total f views ≡ f v
    → ((j : ℕ) (u : View) → get_elem? views j ≡ some u → f u ≡ 0 → g u ≡ 0) → total g views ≡ g v
total_only f g [] k v e all h = absurd (some-ne-none v (sym e))
total_only f g (x ∷ xs) zero v e all h =
    let s = ap f (some-injective x v e) in let t = ap g (some-injective x v e) in
    let rest = total_none f g xs (omega arith) (λ k u a. h (suc k) u a) in omega arith
total_only f g (x ∷ xs) (suc k) v e all h =
    let low = total_at f xs k v e in
    let rest = total_only f g xs k v e (omega arith) (λ j u a. h (suc j) u a) in
    let here = h 0 x refl (omega arith) in omega arith

pub times_append : (x : ℕ) (a b : List ℕ) → times x (a ++ b) ≡ times x a + times x b
times_append x [] b = omega arith
times_append x (y ∷ ys) b = let h = times_append x ys b in omega arith

pub once_below_next : (x n : ℕ) → once_below x (n + 1) ≡ once_below x n + times x (n ∷ [])
once_below_next x n = grind (arith, nat_tests)
