-- Too few uses of a child are found where the layers say so, at the first segment after the child.
use Rattle.std.proofs.Common.{◌≡◌, ℕ, zero, suc, ◌+◌, ◌-◌, ◌<◌, ◌≤◌, ◌⊎◌, inl, inr, List, [], ◌∷◌, Bool, true, false, Option}
use Rattle.std.proofs.Common.{refl, sym, ap, ◌∙◌, subst, arith}
use Rattle.std.specs.Prelude.{◌==◌, nat_le, nat_lt, if◌then◌else◌}
use Rattle.std.specs.List.{Contains}
use Rattle.std.proofs.lemmas.Bool.{false≢true}
use Rattle.std.proofs.lemmas.Bool.Decides.{nat_tests}
use Rattle.hub_kinds.specs.declared.fault.Fault.{Fault}
use Rattle.hub_kinds.specs.declared.codes.SegmentCode.{SegmentCode}
use Rattle.hub_kinds.specs.declared.codes.SegmentCode.TheVariants as ik304
use Rattle.guide_tree.specs.Tree.{Tree}
use Rattle.guide_tree.specs.Places as old
use Rattle.guide_tree.specs.Structure.{IsFirstAt, IsNowhere, IsReportedAt, IsBehind}
use Rattle.night_definition.specs.Guides.{min_of}
use Rattle.night_definition.specs.Places.{Place}
use Rattle.night_definition.specs.Structure.{first_at, use_count, node_fault, few_code, few_faults}
use Rattle.elem_rules.proofs.ForAbove.{no_member, contains_one, one_contains, from_if}
use Rattle.night_equal_set.specs.Placings.{place}
use Rattle.night_equal_structure.proofs.Given.{given}
use Rattle.night_equal_structure.proofs.Standings.{here, past, hit, pos, AreRising, first_is_pos}
use Rattle.night_equal_structure.proofs.Reading.{behind_hit, hit_behind, pos_is}
use Rattle.night_equal_structure.proofs.Inner.{Few, ShortAt}
use Rattle.night_equal_structure.proofs.Found.{AreCounted, one_first, first_nowhere, above_has, has_above}

-- a fault has one position
one_reported : (xs : List (Option old.Place)) (end : ℕ) (parent : old.Place) (k m n : ℕ) → IsReportedAt xs end parent k m
    → IsReportedAt xs end parent k n → m ≡ n
one_reported xs end parent k m n (inl x) (inl y) =
    x.2 ∙ ap (λ i. i + 2) (one_first (IsBehind parent k) xs x.0 y.0 x.1 y.1) ∙ sym y.2
one_reported xs end parent k m n (inl x) (inr y) = absurd (first_nowhere (IsBehind parent k) xs x.0 x.1 y.0)
one_reported xs end parent k m n (inr x) (inl y) = absurd (first_nowhere (IsBehind parent k) xs y.0 y.1 x.0)
one_reported xs end parent k m n (inr x) (inr y) = x.1 ∙ sym y.1

not_above : (c : ℕ) → (c == 0) ≡ true → 0 < c → ⊥
not_above c e l = false≢true (grind (arith, nat_tests))

some_above : (c : ℕ) → (c == 0) ≡ false → 0 < c
some_above c e = grind (arith, nat_tests)

not_least : (m c : ℕ) → nat_le m c ≡ false → m - 1 < c → ⊥
not_least m c e l = false≢true (grind (arith, nat_tests))

least_one : (m c : ℕ) → nat_le m c ≡ false → 1 ≤ m
least_one m c e = grind (arith, nat_tests)

none_above : (c : ℕ) → (0 < c → ⊥) → (c == 0) ≡ true
none_above zero n = refl
none_above (suc c) n = absurd (n (omega arith))

zero_below : (m c : ℕ) → 1 ≤ m → (c == 0) ≡ true → nat_le m c ≡ false
zero_below m c l e = grind (arith, nat_tests)

not_zero : (c : ℕ) → 0 < c → (c == 0) ≡ false
not_zero c l = grind (arith, nat_tests)

below_least : (m c : ℕ) → 1 ≤ m → (m - 1 < c → ⊥) → nat_le m c ≡ false
below_least m c l n = by (nat_le m c) refl
  where
    by : (t : Bool) → nat_le m c ≡ t → t ≡ false
    by true e = absurd (n (grind (arith, nat_tests)))
    by false e = refl

module _ (g : List (Option Place)) (end : ℕ) (counted : AreCounted g) (rising : AreRising g) where
  reported : (pre : Place) (k : ℕ)
      → IsReportedAt (given g) end (place pre) k (first_at (λ a. nat_lt k a.0) (here pre 2 g) (pos (past pre) 2 g end))
  reported pre k = by (pos_is (IsBehind (place pre) k) (hit (λ a. nat_lt k a.0) pre) (hit_behind pre k) (behind_hit pre k) 2 end g)
    where
      by : ((n : ℕ) × IsFirstAt (IsBehind (place pre) k) (given g) n × (pos (hit (λ a. nat_lt k a.0) pre) 2 g end ≡ n + 2))
          ⊎ (IsNowhere (IsBehind (place pre) k) (given g) × (pos (hit (λ a. nat_lt k a.0) pre) 2 g end ≡ end))
          → IsReportedAt (given g) end (place pre) k (first_at (λ a. nat_lt k a.0) (here pre 2 g) (pos (past pre) 2 g end))
      by (inl x) = inl (x.0, x.1, first_is_pos (λ a. nat_lt k a.0) pre 2 end g rising ∙ x.2)
      by (inr x) = inr (x.0, first_is_pos (λ a. nat_lt k a.0) pre 2 end g rising ∙ x.1)

  few_is : (pre : Place) (t : Tree) (k : ℕ) → nat_le (min_of t) (use_count k (here pre 2 g)) ≡ false
      → Few g pre t k (if use_count k (here pre 2 g) == 0 then ik304.RequiredSegmentMissing else few_code t)
  few_is pre t k l = by (use_count k (here pre 2 g) == 0) refl
    where
      by : (b : Bool) → (use_count k (here pre 2 g) == 0) ≡ b → Few g pre t k (if b then ik304.RequiredSegmentMissing else few_code t)
      by true e = inl ((λ h. not_above (use_count k (here pre 2 g)) e (has_above g end counted rising pre k 0 h)), refl)
      by false e = inr (
        above_has g end counted rising pre k 0 (some_above (use_count k (here pre 2 g)) e),
        (λ h. not_least (min_of t) (use_count k (here pre 2 g)) l (has_above g end counted rising pre k (min_of t - 1) h)),
        refl,
      )

  is_few : (pre : Place) (t : Tree) (k : ℕ) (code : SegmentCode) → 1 ≤ min_of t → Few g pre t k code
      → (nat_le (min_of t) (use_count k (here pre 2 g)) ≡ false)
      × ((if use_count k (here pre 2 g) == 0 then ik304.RequiredSegmentMissing else few_code t) ≡ code)
  is_few pre t k code l (inl x) =
      let e = none_above (use_count k (here pre 2 g)) (λ m. x.0 (above_has g end counted rising pre k 0 m)) in (
        zero_below (min_of t) (use_count k (here pre 2 g)) l e,
        ap (λ b. if b then ik304.RequiredSegmentMissing else few_code t) e ∙ sym x.1,
      )
  is_few pre t k code l (inr x) =
      let e = not_zero (use_count k (here pre 2 g)) (has_above g end counted rising pre k 0 x.0) in (
        below_least (min_of t) (use_count k (here pre 2 g)) l (λ m. x.1 (above_has g end counted rising pre k (min_of t - 1) m)),
        ap (λ b. if b then ik304.RequiredSegmentMissing else few_code t) e ∙ sym x.2,
      )

  pub few_to : (pre : Place) (outer : List ℕ) (t : Tree) (k : ℕ) (f : Fault)
      → Contains (few_faults outer t k (here pre 2 g) (pos (past pre) 2 g end)) f → ShortAt g end pre outer t k f
  few_to pre outer t k f h = by (from_if (nat_le (min_of t) (use_count k (here pre 2 g))) [] one f h)
    where
      at : ℕ
      at = first_at (λ a. nat_lt k a.0) (here pre 2 g) (pos (past pre) 2 g end)

      code : SegmentCode
      code = if use_count k (here pre 2 g) == 0 then ik304.RequiredSegmentMissing else few_code t

      one : List Fault
      one = node_fault outer t at code ∷ []

      by : ((nat_le (min_of t) (use_count k (here pre 2 g)) ≡ true) × Contains [] f)
          ⊎ ((nat_le (min_of t) (use_count k (here pre 2 g)) ≡ false) × Contains one f) → ShortAt g end pre outer t k f
      by (inl x) = absurd (no_member f x.1)
      by (inr x) = (
        at,
        code,
        least_one (min_of t) (use_count k (here pre 2 g)) x.0,
        few_is pre t k x.0,
        reported pre k,
        contains_one (node_fault outer t at code) f x.1,
      )

  pub to_few : (pre : Place) (outer : List ℕ) (t : Tree) (k : ℕ) (f : Fault) → ShortAt g end pre outer t k f
      → Contains (few_faults outer t k (here pre 2 g) (pos (past pre) 2 g end)) f
  to_few pre outer t k f h =
      let few = is_few pre t k h.1 h.2 h.3 in
      let same = one_reported (given g) end (place pre) k at h.0 (reported pre k) h.4 in
      by (nat_le (min_of t) (use_count k (here pre 2 g))) few.0 (ap (λ n. node_fault outer t n code) same
      ∙ ap (λ c. node_fault outer t h.0 c) few.1 ∙ sym h.5)
    where
      at : ℕ
      at = first_at (λ a. nat_lt k a.0) (here pre 2 g) (pos (past pre) 2 g end)

      code : SegmentCode
      code = if use_count k (here pre 2 g) == 0 then ik304.RequiredSegmentMissing else few_code t

      by : (b : Bool) → b ≡ false → node_fault outer t at code ≡ f → Contains (if b then [] else node_fault outer t at code ∷ []) f
      by true e is = absurd (false≢true (sym e))
      by false e is = subst (λ x. Contains (node_fault outer t at code ∷ []) x) is (one_contains (node_fault outer t at code))
