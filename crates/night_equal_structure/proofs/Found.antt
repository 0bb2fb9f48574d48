-- The faults that the definition finds in a repetition of a parent are these.
use Rattle.std.proofs.Common.{◌≡◌, ℕ, zero, suc, ◌+◌, ◌<◌, ◌≤◌, ◌⊎◌, inl, inr, List, [], ◌∷◌, ◌++◌, true, false, Option, Some, None}
use Rattle.std.proofs.Common.{refl, sym, ap, ◌∙◌, subst, arith}
use Rattle.std.specs.Prelude.{nat_le, if◌then◌else◌}
use Rattle.std.specs.List.{Contains, range_with_len}
use Rattle.std.proofs.lemmas.Bool.Decides.{nat_tests}
use Rattle.hub_kinds.specs.declared.fault.Fault.{Fault}
use Rattle.guide_tree.specs.Tree.{Tree}
use Rattle.guide_tree.specs.Places as old
use Rattle.guide_tree.specs.Structure.{Begins, Has, IsFirstAt, IsNowhere}
use Rattle.night_definition.specs.Guides.{max_of}
use Rattle.night_definition.specs.Places.{Place}
use Rattle.night_definition.specs.Structure.{is_use, first_at, use_count, node_fault, past_code}
use Rattle.night_definition.specs.Structure.{past_faults}
use Rattle.elem_rules.proofs.ForAbove.{no_member, contains_one, one_contains, from_if, in_then, from_flat_map, in_flat_map}
use Rattle.night_equal_set.specs.Placings.{place}
use Rattle.night_equal_structure.proofs.Given.{given}
use Rattle.night_equal_structure.proofs.Standings.{here, begun, rest, pos, AreRising}
use Rattle.night_equal_structure.proofs.Reading.{in_use, use_begun, pos_is}
use Rattle.night_equal_structure.proofs.Uses.{there_counts, counts_there, first_use, UseFrom}
use Rattle.night_equal_structure.proofs.Ranges.{in_range, range_in}
use Rattle.night_equal_structure.proofs.Inner.{HasUse, PastAt}

-- uses come without gaps
abbrev pub AreCounted : List (Option Place) → Type 0
AreCounted g = (pre : Place) (k u v : ℕ) → v ≤ u → HasUse g pre k u → HasUse g pre k v

nowhere_has : (pre : old.Place) (xs : List (Option old.Place)) → IsNowhere (Begins pre) xs → Has xs pre → ⊥
nowhere_has pre [] n h = h
nowhere_has pre (None ∷ xs) n h = nowhere_has pre xs n.1 h
nowhere_has pre (Some q ∷ xs) n (inl b) = n.0 b
nowhere_has pre (Some q ∷ xs) n (inr h) = nowhere_has pre xs n.1 h

pub first_has : (pre : old.Place) (xs : List (Option old.Place)) (n : ℕ) → IsFirstAt (Begins pre) xs n → Has xs pre
first_has pre [] n f = absurd f
first_has pre (None ∷ xs) zero f = absurd f
first_has pre (Some q ∷ xs) zero f = inl f
first_has pre (None ∷ xs) (suc n) f = first_has pre xs n f.1
first_has pre (Some q ∷ xs) (suc n) f = inr (first_has pre xs n f.1)

pub one_first : (Q : old.Place → Type 0) (xs : List (Option old.Place)) (m n : ℕ) → IsFirstAt Q xs m → IsFirstAt Q xs n → m ≡ n
one_first Q [] m n f h = absurd f
one_first Q (None ∷ xs) zero n f h = absurd f
one_first Q (None ∷ xs) (suc m) zero f h = absurd h
one_first Q (None ∷ xs) (suc m) (suc n) f h = ap suc (one_first Q xs m n f.1 h.1)
one_first Q (Some q ∷ xs) zero zero f h = refl
one_first Q (Some q ∷ xs) zero (suc n) f h = absurd (h.0 f)
one_first Q (Some q ∷ xs) (suc m) zero f h = absurd (f.0 h)
one_first Q (Some q ∷ xs) (suc m) (suc n) f h = ap suc (one_first Q xs m n f.1 h.1)

pub first_nowhere : (Q : old.Place → Type 0) (xs : List (Option old.Place)) (n : ℕ) → IsFirstAt Q xs n → IsNowhere Q xs → ⊥
first_nowhere Q [] n f h = f
first_nowhere Q (None ∷ xs) zero f h = f
first_nowhere Q (None ∷ xs) (suc n) f h = first_nowhere Q xs n f.1 h.1
first_nowhere Q (Some q ∷ xs) zero f h = h.0 f
first_nowhere Q (Some q ∷ xs) (suc n) f h = first_nowhere Q xs n f.1 h.1

module _ (g : List (Option Place)) (end : ℕ) (counted : AreCounted g) (rising : AreRising g) where
  -- a use is there if the count is above it
  pub above_has : (pre : Place) (k u : ℕ) → u < use_count k (here pre 2 g) → HasUse g pre k u
  above_has pre k u l = by (counts_there pre k u 2 0 g l)
    where
      by : (u < 0) ⊎ UseFrom pre k u g → HasUse g pre k u
      by (inl z) = absurd (omega arith)
      by (inr x) = counted pre k x.0 u x.1 x.2

  pub has_above : (pre : Place) (k u : ℕ) → HasUse g pre k u → u < use_count k (here pre 2 g)
  has_above pre k u h = there_counts pre k u 2 0 g h

  -- where the first segment of a use is
  use_at : (pre : Place) (k u : ℕ) → HasUse g pre k u
      → (n : ℕ) × IsFirstAt (Begins (place (pre ++ (k, u) ∷ []))) (given g) n × (first_at (is_use k u) (here pre 2 g) 0 ≡ n + 2)
  use_at pre k u h =
      by (pos_is (Begins (place (pre ++ (k, u) ∷ []))) (λ q. begun (is_use k u) (rest pre q)) (in_use pre k u) (use_begun pre k u) 2 0 g)
    where
      by : ((n : ℕ) × IsFirstAt (Begins (place (pre ++ (k, u) ∷ []))) (given g) n
          × (pos (λ q. begun (is_use k u) (rest pre q)) 2 g 0 ≡ n + 2))
          ⊎ (IsNowhere (Begins (place (pre ++ (k, u) ∷ []))) (given g) × (pos (λ q. begun (is_use k u) (rest pre q)) 2 g 0 ≡ 0))
          → (n : ℕ) × IsFirstAt (Begins (place (pre ++ (k, u) ∷ []))) (given g) n × (first_at (is_use k u) (here pre 2 g) 0 ≡ n + 2)
      by (inl x) = (x.0, x.1, first_use pre k u 2 0 g ∙ x.2)
      by (inr x) = absurd (nowhere_has (place (pre ++ (k, u) ∷ [])) (given g) x.0 h)

  pub past_to : (pre : Place) (outer : List ℕ) (t : Tree) (k : ℕ) (f : Fault) → Contains (past_faults outer t k (here pre 2 g)) f
      → PastAt g pre outer t k f
  past_to pre outer t k f h =
      let m = from_flat_map (λ u. if nat_le (max_of t) u
      then node_fault outer t (first_at (is_use k u) (here pre 2 g) 0) (past_code t) ∷ [] else [])
      (range_with_len 0 (use_count k (here pre 2 g))) f h in
      by m.0 (in_range 0 (use_count k (here pre 2 g)) m.0 m.1)
      (from_if (nat_le (max_of t) m.0) (node_fault outer t (first_at (is_use k m.0) (here pre 2 g) 0) (past_code t) ∷ []) [] f m.2)
    where
      by : (u : ℕ) → (0 ≤ u) × (u < 0 + use_count k (here pre 2 g))
          → ((nat_le (max_of t) u ≡ true) × Contains (node_fault outer t (first_at (is_use k u) (here pre 2 g) 0) (past_code t) ∷ []) f)
          ⊎ ((nat_le (max_of t) u ≡ false) × Contains [] f) → PastAt g pre outer t k f
      by u r (inr x) = absurd (no_member f x.1)
      by u r (inl x) =
          let l : u < use_count k (here pre 2 g) = let m : u < 0 + use_count k (here pre 2 g) = r.1 in omega arith in
          let a = use_at pre k u (above_has pre k u l) in (
            u,
            grind (arith, nat_tests),
            a.0,
            a.1,
            contains_one (node_fault outer t (first_at (is_use k u) (here pre 2 g) 0) (past_code t)) f x.1
                ∙ ap (λ n. node_fault outer t n (past_code t)) a.2,
          )

  pub to_past : (pre : Place) (outer : List ℕ) (t : Tree) (k : ℕ) (f : Fault) → PastAt g pre outer t k f
      → Contains (past_faults outer t k (here pre 2 g)) f
  to_past pre outer t k f h =
      let has : HasUse g pre k h.0 = first_has (place (pre ++ (k, h.0) ∷ [])) (given g) h.2 h.3 in
      let a = use_at pre k h.0 has in
      let l : max_of t ≤ h.0 = h.1 in
      let same : a.0 ≡ h.2 = one_first (Begins (place (pre ++ (k, h.0) ∷ []))) (given g) a.0 h.2 a.1 h.3 in
      in_flat_map (λ u. if nat_le (max_of t) u
      then node_fault outer t (first_at (is_use k u) (here pre 2 g) 0) (past_code t) ∷ [] else [])
      (range_with_len 0 (use_count k (here pre 2 g))) h.0 f
      (range_in 0 (use_count k (here pre 2 g)) h.0 (omega arith) (let m = has_above pre k h.0 has in omega arith))
      (in_then (nat_le (max_of t) h.0) (node_fault outer t (first_at (is_use k h.0) (here pre 2 g) 0) (past_code t) ∷ []) [] f
      (grind (arith, nat_tests))
      (subst (λ x. Contains (node_fault outer t (first_at (is_use k h.0) (here pre 2 g) 0) (past_code t) ∷ []) x)
      (ap (λ n. node_fault outer t n (past_code t)) (a.2 ∙ ap (λ n. n + 2) same) ∙ sym h.4)
      (one_contains (node_fault outer t (first_at (is_use k h.0) (here pre 2 g) 0) (past_code t)))))
