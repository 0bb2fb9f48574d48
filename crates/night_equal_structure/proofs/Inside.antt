-- The definition's faults in a repetition of a parent, with those of each loop's repetitions, are those of the layers' words.
use Rattle.std.proofs.Common.{◌≡◌, ℕ, ◌+◌, ◌<◌, ◌≤◌, ◌⊎◌, inl, inr, List, [], ◌∷◌, ◌++◌, Option, sym, ap, ◌∙◌, subst, arith}
use Rattle.std.specs.List.{Contains, range_with_len}
use Rattle.std.proofs.lemmas.List.Elements.{Contains-append_left, Contains-append_right, Contains-append_cases}
use Rattle.hub_kinds.specs.declared.fault.Fault.{Fault}
use Rattle.guide_tree.specs.Tree.{Tree, Trees, segment, loop, no_trees, tree}
use Rattle.night_definition.specs.Places.{Place}
use Rattle.night_definition.specs.Structure.{is_after_use, first_at, use_count, within, past_faults, few_faults, faults_under, faults_in}
use Rattle.elem_rules.proofs.ForAbove.{no_member, from_flat_map, in_flat_map}
use Rattle.night_equal_structure.proofs.Standings.{here, within_here, past, hit, pos, AreRising, first_is_pos}
use Rattle.night_equal_structure.proofs.Reading.{hit_is_past, pos_same}
use Rattle.night_equal_structure.proofs.Ranges.{in_range, range_in}
use Rattle.night_equal_structure.proofs.Inner.{UnderAt, InsideAt}
use Rattle.night_equal_structure.proofs.Found.{AreCounted, above_has, has_above, past_to, to_past}
use Rattle.night_equal_structure.proofs.Few.{few_to, to_few}

-- a member of four lists
one_of_four : (ps qs rs ss : List Fault) (f : Fault) → Contains (ps ++ qs ++ rs ++ ss) f
    → Contains ps f ⊎ (Contains qs f ⊎ (Contains rs f ⊎ Contains ss f))
one_of_four ps qs rs ss f h = one (Contains-append_cases (ps ++ qs ++ rs) ss f h)
  where
    three : Contains ps f ⊎ Contains qs f → Contains ps f ⊎ (Contains qs f ⊎ (Contains rs f ⊎ Contains ss f))
    three (inl x) = inl x
    three (inr x) = inr (inl x)

    two : Contains (ps ++ qs) f ⊎ Contains rs f → Contains ps f ⊎ (Contains qs f ⊎ (Contains rs f ⊎ Contains ss f))
    two (inl x) = three (Contains-append_cases ps qs f x)
    two (inr x) = inr (inr (inl x))

    one : Contains (ps ++ qs ++ rs) f ⊎ Contains ss f → Contains ps f ⊎ (Contains qs f ⊎ (Contains rs f ⊎ Contains ss f))
    one (inl x) = two (Contains-append_cases (ps ++ qs) rs f x)
    one (inr x) = inr (inr (inr x))

in_four : (ps qs rs ss : List Fault) (f : Fault) → Contains ps f ⊎ (Contains qs f ⊎ (Contains rs f ⊎ Contains ss f))
    → Contains (ps ++ qs ++ rs ++ ss) f
in_four ps qs rs ss f (inl x) =
    Contains-append_left (ps ++ qs ++ rs) ss f (Contains-append_left (ps ++ qs) rs f (Contains-append_left ps qs f x))
in_four ps qs rs ss f (inr (inl x)) =
    Contains-append_left (ps ++ qs ++ rs) ss f (Contains-append_left (ps ++ qs) rs f (Contains-append_right ps qs f x))
in_four ps qs rs ss f (inr (inr (inl x))) =
    Contains-append_left (ps ++ qs ++ rs) ss f (Contains-append_right (ps ++ qs) rs f x)
in_four ps qs rs ss f (inr (inr (inr x))) = Contains-append_right (ps ++ qs ++ rs) ss f x

-- the definition's faults in a parent's repetition
abbrev pub found : (g : List (Option Place)) → (end : ℕ) → (pre : Place) → (outer : List ℕ) → Trees → (k : ℕ) → List Fault
found g end pre outer ts k = faults_in outer ts k (here pre 2 g) (pos (past pre) 2 g end)

abbrev found_under : (g : List (Option Place)) → (end : ℕ) → (pre : Place) → Tree → (k : ℕ) → List Fault
found_under g end pre t k = faults_under t k (here pre 2 g) (pos (past pre) 2 g end)

-- the faults in one use of a loop, as the definition reads them
abbrev in_one_use : (g : List (Option Place)) → (end : ℕ) → (pre : Place) → (outer : List ℕ) → Trees → (k u : ℕ) → List Fault
in_one_use g end pre outer ts k u =
    faults_in outer ts 0 (within k u (here pre 2 g)) (first_at (is_after_use k u) (here pre 2 g) (pos (past pre) 2 g end))

use_is_found : (g : List (Option Place)) (end : ℕ) → AreRising g → (pre : Place) (outer : List ℕ) (ts : Trees) (k u : ℕ)
    → in_one_use g end pre outer ts k u ≡ found g end (pre ++ (k, u) ∷ []) outer ts 0
use_is_found g end rising pre outer ts k u =
    ap (λ xs. faults_in outer ts 0 xs (first_at (is_after_use k u) (here pre 2 g) (pos (past pre) 2 g end))) (within_here pre k u 2 g)
    ∙ ap (λ n. faults_in outer ts 0 (here (pre ++ (k, u) ∷ []) 2 g) n)
    (first_is_pos (is_after_use k u) pre 2 end g rising
    ∙ pos_same (hit (is_after_use k u) pre) (past (pre ++ (k, u) ∷ [])) (hit_is_past pre k u) 2 end g)

below_zero : (c u : ℕ) → u < 0 + c → u < c
below_zero c u l = omega arith

above_zero : (c u : ℕ) → u < c → u < 0 + c
above_zero c u l = omega arith

not_negative : (u : ℕ) → 0 ≤ u
not_negative u = omega arith

module _ (g : List (Option Place)) (end : ℕ) (counted : AreCounted g) (rising : AreRising g) where
  mutual
    under_to : (t : Tree) (pre : Place) (k : ℕ) (f : Fault) → Contains (found_under g end pre t k) f → UnderAt g end pre t k f
    under_to (segment s) pre k f h = absurd (no_member f h)
    under_to (loop l ts) pre k f h =
        let m = from_flat_map (in_one_use g end pre l.id ts k) (range_with_len 0 (use_count k (here pre 2 g))) f h in (
          m.0,
          above_has g end counted rising pre k m.0
              (below_zero (use_count k (here pre 2 g)) m.0 (in_range 0 (use_count k (here pre 2 g)) m.0 m.1).1),
          inside_to ts (pre ++ (k, m.0) ∷ []) l.id 0 f
              (subst (λ xs. Contains xs f) (use_is_found g end rising pre l.id ts k m.0) m.2),
        )

    pub inside_to : (ts : Trees) (pre : Place) (outer : List ℕ) (k : ℕ) (f : Fault) → Contains (found g end pre outer ts k) f
        → InsideAt g end pre outer ts k f
    inside_to no_trees pre outer k f h = absurd (no_member f h)
    inside_to (tree t ts) pre outer k f h =
        by (one_of_four (past_faults outer t k (here pre 2 g)) (few_faults outer t k (here pre 2 g) (pos (past pre) 2 g end))
        (found_under g end pre t k) (found g end pre outer ts (k + 1)) f h)
        (λ x. under_to t pre k f x) (λ x. inside_to ts pre outer (k + 1) f x)
      where
        by : Contains (past_faults outer t k (here pre 2 g)) f
            ⊎ (Contains (few_faults outer t k (here pre 2 g) (pos (past pre) 2 g end)) f
            ⊎ (Contains (found_under g end pre t k) f ⊎ Contains (found g end pre outer ts (k + 1)) f))
            → (Contains (found_under g end pre t k) f → UnderAt g end pre t k f)
            → (Contains (found g end pre outer ts (k + 1)) f → InsideAt g end pre outer ts (k + 1) f)
            → InsideAt g end pre outer (tree t ts) k f
        by (inl x) under later = inl (past_to g end counted rising pre outer t k f x)
        by (inr (inl x)) under later = inr (inl (few_to g end counted rising pre outer t k f x))
        by (inr (inr (inl x))) under later = inr (inr (inl (under x)))
        by (inr (inr (inr x))) under later = inr (inr (inr (later x)))

  mutual
    to_under : (t : Tree) (pre : Place) (k : ℕ) (f : Fault) → UnderAt g end pre t k f → Contains (found_under g end pre t k) f
    to_under (segment s) pre k f h = absurd h
    to_under (loop l ts) pre k f h =
        in_flat_map (in_one_use g end pre l.id ts k) (range_with_len 0 (use_count k (here pre 2 g))) h.0 f
        (range_in 0 (use_count k (here pre 2 g)) h.0 (not_negative h.0)
        (above_zero (use_count k (here pre 2 g)) h.0 (has_above g end counted rising pre k h.0 h.1)))
        (subst (λ xs. Contains xs f) (sym (use_is_found g end rising pre l.id ts k h.0))
        (to_inside ts (pre ++ (k, h.0) ∷ []) l.id 0 f h.2))

    pub to_inside : (ts : Trees) (pre : Place) (outer : List ℕ) (k : ℕ) (f : Fault) → InsideAt g end pre outer ts k f
        → Contains (found g end pre outer ts k) f
    to_inside no_trees pre outer k f h = absurd h
    to_inside (tree t ts) pre outer k f h =
        in_four (past_faults outer t k (here pre 2 g)) (few_faults outer t k (here pre 2 g) (pos (past pre) 2 g end))
        (found_under g end pre t k) (found g end pre outer ts (k + 1)) f
        (by h (λ x. to_under t pre k f x) (λ x. to_inside ts pre outer (k + 1) f x))
      where
        by : InsideAt g end pre outer (tree t ts) k f
            → (UnderAt g end pre t k f → Contains (found_under g end pre t k) f)
            → (InsideAt g end pre outer ts (k + 1) f → Contains (found g end pre outer ts (k + 1)) f)
            → Contains (past_faults outer t k (here pre 2 g)) f
            ⊎ (Contains (few_faults outer t k (here pre 2 g) (pos (past pre) 2 g end)) f
            ⊎ (Contains (found_under g end pre t k) f ⊎ Contains (found g end pre outer ts (k + 1)) f))
        by (inl x) under later = inl (to_past g end counted rising pre outer t k f x)
        by (inr (inl x)) under later = inr (inl (to_few g end counted rising pre outer t k f x))
        by (inr (inr (inl x))) under later = inr (inr (inl (under x)))
        by (inr (inr (inr x))) under later = inr (inr (inr (later x)))
