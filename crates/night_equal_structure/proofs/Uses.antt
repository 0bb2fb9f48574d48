-- How often a child is used in a repetition of its parent: as often as its last use says, since there are no gaps.
use Rattle.std.proofs.Common.{◌≡◌, ℕ, ◌+◌, ◌<◌, ◌≤◌, ◌⊎◌, inl, inr, List, [], ◌∷◌, ◌++◌, Bool, true, false, Option, Some, None}
use Rattle.std.proofs.Common.{refl, ap, ◌∙◌, subst, arith}
use Rattle.std.specs.Prelude.{◌==◌, nat_lt, if◌then◌else◌, max, fold}
use Rattle.std.proofs.lemmas.Bool.{false≢true}
use Rattle.std.proofs.lemmas.Bool.Decides.{nat_tests}
use Rattle.std.proofs.lemmas.List.{map-append}
use Rattle.guide_tree.specs.Places.{use_of}
use Rattle.guide_tree.specs.Structure.{Has}
use Rattle.night_definition.specs.Places.{Place}
use Rattle.night_definition.specs.Structure.{Standing, is_use, first_at, use_in}
use Rattle.night_equal_set.specs.Placings.{pair, place}
use Rattle.night_equal_structure.proofs.Given.{given}
use Rattle.night_equal_structure.proofs.Standings.{rest, standing, here, begun, first_one, pos}
use Rattle.night_equal_structure.proofs.Reading.{in_use, use_begun}

pub place_use : (pre : Place) (k u : ℕ) → place (pre ++ (k, u) ∷ []) ≡ place pre ++ use_of k u ∷ []
place_use pre k u = map-append pair pre ((k, u) ∷ [])

abbrev pub count_from : (k n : ℕ) → List Standing → ℕ
count_from k n xs = fold (λ m x. max m (use_in k x)) n xs

at_least : (k n : ℕ) (xs : List Standing) → n ≤ count_from k n xs
at_least k n [] = omega arith
at_least k n (x ∷ xs) = let l = at_least k (max n (use_in k x)) xs in grind arith

one_use : (k u : ℕ) (b : ℕ × ℕ) → is_use k u b ≡ true → (if b.0 == k then b.1 + 1 else 0) ≡ u + 1
one_use k u b h = by (b.0 == k) refl
  where
    by : (t : Bool) → (b.0 == k) ≡ t → (if t then b.1 + 1 else 0) ≡ u + 1
    by true e = grind (arith, nat_tests)
    by false e = absurd (false≢true (grind (arith, nat_tests)))

pub there_counts : (pre : Place) (k u i n : ℕ) (g : List (Option Place)) → Has (given g) (place (pre ++ (k, u) ∷ []))
    → u < count_from k n (here pre i g)
there_counts pre k u i n [] h = absurd h
there_counts pre k u i n (None ∷ g) h = there_counts pre k u (i + 1) n g h
there_counts pre k u i n (Some q ∷ g) (inl b) = by (rest pre q) (use_begun pre k u q b)
  where
    by : (o : Option Place) → begun (is_use k u) o ≡ true → u < count_from k n (standing i o (here pre (i + 1) g))
    by None p = absurd (false≢true p)
    by (Some []) p = absurd (false≢true p)
    by (Some (c ∷ r)) p =
        let l = at_least k (max n (if c.0 == k then c.1 + 1 else 0)) (here pre (i + 1) g) in
        let e = one_use k u c p in grind arith
there_counts pre k u i n (Some q ∷ g) (inr h) = by (rest pre q) (λ m. there_counts pre k u (i + 1) m g h)
  where
    by : (o : Option Place) → ((m : ℕ) → u < count_from k m (here pre (i + 1) g)) → u < count_from k n (standing i o (here pre (i + 1) g))
    by None more = more n
    by (Some r) more = more (max n (use_in k (i, r)))

-- some use from a number on
abbrev pub UseFrom : (pre : Place) → (k u : ℕ) → List (Option Place) → Type 0
UseFrom pre k u g = (v : ℕ) × (u ≤ v) × Has (given g) (place (pre ++ (k, v) ∷ []))

later_use : (pre : Place) (k u : ℕ) (o : Option Place) (g : List (Option Place)) → UseFrom pre k u g → UseFrom pre k u (o ∷ g)
later_use pre k u None g h = h
later_use pre k u (Some q) g h = (h.0, h.1, inr h.2)

own_use : (k : ℕ) (b : ℕ × ℕ) → (b.0 == k) ≡ true → is_use k b.1 b ≡ true
own_use k b e = grind (arith, nat_tests)

max_zero : (n : ℕ) → max n 0 ≡ n
max_zero n = grind arith

below_max : (u n m : ℕ) → u < max n (m + 1) → (u < n) ⊎ (u ≤ m)
below_max u n m h = by (nat_lt u n) refl
  where
    by : (t : Bool) → nat_lt u n ≡ t → (u < n) ⊎ (u ≤ m)
    by true e = inl (grind (arith, nat_tests))
    by false e = inr (grind (arith, nat_tests))

pub counts_there : (pre : Place) (k u i n : ℕ) (g : List (Option Place)) → u < count_from k n (here pre i g)
    → (u < n) ⊎ UseFrom pre k u g
counts_there pre k u i n [] h = inl h
counts_there pre k u i n (None ∷ g) h = counts_there pre k u (i + 1) n g h
counts_there pre k u i n (Some q ∷ g) h = by (rest pre q) refl h (λ m l. counts_there pre k u (i + 1) m g l)
  where
    on : (m : ℕ) → (u < m) ⊎ UseFrom pre k u g → (u < m) ⊎ UseFrom pre k u (Some q ∷ g)
    on m (inl l) = inl l
    on m (inr x) = inr (later_use pre k u (Some q) g x)

    child : (b : ℕ × ℕ) (r : Place) → rest pre q ≡ Some (b ∷ r) → (t : Bool) → (b.0 == k) ≡ t
        → (u < max n (if t then b.1 + 1 else 0)) ⊎ UseFrom pre k u g → (u < n) ⊎ UseFrom pre k u (Some q ∷ g)
    child b r e t f (inr x) = inr (later_use pre k u (Some q) g x)
    child b r e false f (inl l) = inl (subst (λ m. u < m) (max_zero n) l)
    child b r e true f (inl l) = last (below_max u n b.1 l)
      where
        last : (u < n) ⊎ (u ≤ b.1) → (u < n) ⊎ UseFrom pre k u (Some q ∷ g)
        last (inl m) = inl m
        last (inr m) = inr (b.1, m, inl (in_use pre k b.1 q (ap (begun (is_use k b.1)) e ∙ own_use k b f)))

    by : (o : Option Place) → rest pre q ≡ o → u < count_from k n (standing i o (here pre (i + 1) g))
        → ((m : ℕ) → u < count_from k m (here pre (i + 1) g) → (u < m) ⊎ UseFrom pre k u g) → (u < n) ⊎ UseFrom pre k u (Some q ∷ g)
    by None e l more = on n (more n l)
    by (Some []) e l more = on n (subst (λ m. (u < m) ⊎ UseFrom pre k u g) (max_zero n) (more (max n 0) l))
    by (Some (b ∷ r)) e l more = child b r e (b.0 == k) refl (more (max n (if b.0 == k then b.1 + 1 else 0)) l)

-- the first segment of a use
pub first_use : (pre : Place) (k u i e : ℕ) (g : List (Option Place))
    → first_at (is_use k u) (here pre i g) e ≡ pos (λ q. begun (is_use k u) (rest pre q)) i g e
first_use pre k u i e [] = refl
first_use pre k u i e (None ∷ g) = first_use pre k u (i + 1) e g
first_use pre k u i e (Some q ∷ g) =
    first_one (is_use k u) i e (rest pre q) (here pre (i + 1) g)
    ∙ ap (λ n. if begun (is_use k u) (rest pre q) then i else n) (first_use pre k u (i + 1) e g)
