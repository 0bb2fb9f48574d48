-- The numbers of a range.
use Rattle.std.proofs.Common.{◌≡◌, ℕ, zero, suc, ◌+◌, ◌<◌, ◌≤◌, ◌⊎◌, inl, inr, [], ◌∷◌, Bool, true, false, refl, subst, arith}
use Rattle.std.specs.Prelude.{◌==◌}
use Rattle.std.specs.List.{Contains, range_with_len}
use Rattle.std.proofs.lemmas.List.Elements.{Contains-append_left, Contains-append_right, Contains-append_cases}
use Rattle.std.proofs.lemmas.Bool.Decides.{nat_tests}
use Rattle.elem_rules.proofs.ForAbove.{no_member, contains_one, one_contains}

pub in_range : (a n x : ℕ) → Contains (range_with_len a n) x → (a ≤ x) × (x < a + n)
in_range a zero x h = absurd (no_member x h)
in_range a (suc n) x h = by (Contains-append_cases (a ∷ []) (range_with_len (a + 1) n) x h) (in_range (a + 1) n x)
  where
    by : Contains (a ∷ []) x ⊎ Contains (range_with_len (a + 1) n) x
        → (Contains (range_with_len (a + 1) n) x → (a + 1 ≤ x) × (x < a + 1 + n)) → (a ≤ x) × (x < a + suc n)
    by (inl e) more = let i : x ≡ a = contains_one a x e in (omega arith, omega arith)
    by (inr e) more = let m = more e in let l : a + 1 ≤ x = m.0 in let k : x < a + 1 + n = m.1 in (omega arith, omega arith)

pub range_in : (a n x : ℕ) → a ≤ x → x < a + n → Contains (range_with_len a n) x
range_in a zero x l h = absurd (omega arith)
range_in a (suc n) x l h = by (a == x) refl (range_in (a + 1) n x)
  where
    by : (t : Bool) → (a == x) ≡ t → (a + 1 ≤ x → x < a + 1 + n → Contains (range_with_len (a + 1) n) x)
        → Contains (range_with_len a (suc n)) x
    by true e more = let i : a ≡ x = grind (arith, nat_tests) in
        Contains-append_left (a ∷ []) (range_with_len (a + 1) n) x (subst (λ y. Contains (a ∷ []) y) i (one_contains a))
    by false e more = Contains-append_right (a ∷ []) (range_with_len (a + 1) n) x
        (more (grind (arith, nat_tests)) (grind (arith, nat_tests)))
