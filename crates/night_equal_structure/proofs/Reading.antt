-- What the layers say of the places that are given, and the tests by which the definition reads them.
use Rattle.std.proofs.Common.{◌≡◌, ℕ, suc, ◌+◌, ◌<◌, ◌⊎◌, inl, inr, List, [], ◌∷◌, ◌++◌, Bool, true, false, ◌&&◌, ◌||◌}
use Rattle.std.proofs.Common.{Option, Some, None, refl, sym, ap, ◌∙◌, arith}
use Rattle.std.specs.Prelude.{◌==◌, nat_lt, if◌then◌else◌}
use Rattle.std.proofs.lemmas.Bool.{false≢true, true≢false}
use Rattle.std.proofs.lemmas.Bool.Decides.{nat_tests}
use Rattle.std.proofs.lemmas.Option.{none-some}
use Rattle.guide_tree.specs.Places.{Pair, use_of}
use Rattle.guide_tree.specs.Places as old
use Rattle.guide_tree.specs.Structure.{Begins, IsFirstAt, IsNowhere, IsBefore, IsBehind}
use Rattle.guide_tree.proofs.ForAbove.{pair_is}
use Rattle.night_definition.specs.Places.{Place}
use Rattle.night_definition.specs.Structure.{is_use, is_after_use}
use Rattle.night_equal_set.specs.Placings.{pair, place}
use Rattle.night_equal_structure.proofs.Given.{given}
use Rattle.night_equal_structure.proofs.Standings.{rest, one_down, rest_more, begun, past, hit, pos}
use Rattle.night_equal_structure.proofs.Standings.{or_true, and_true, or_left, or_right, and_both}

pub use_is : (a b : ℕ × ℕ) → is_use a.0 a.1 b ≡ true → pair a ≡ pair b
use_is a b h = pair_is (pair a) (pair b) (grind (arith, nat_tests)) (grind (arith, nat_tests))

pub is_use_of : (a b : ℕ × ℕ) → pair a ≡ pair b → is_use a.0 a.1 b ≡ true
is_use_of a b e =
    let c : a.0 ≡ b.0 = ap (λ (x : Pair). x.child) e in
    let u : a.1 ≡ b.1 = ap (λ (x : Pair). x.use_no) e in grind (arith, nat_tests)

-- a place that begins so is what the parent's place leaves of it
pub begins_rest : (pre q r : Place) → rest pre q ≡ Some r → Begins (place pre) (place q)
begins_rest [] q r h = tt
begins_rest (a ∷ pre) [] r h = absurd (none-some r h)
begins_rest (a ∷ pre) (b ∷ q) r h = by (is_use a.0 a.1 b) refl h (begins_rest pre q r)
  where
    by : (t : Bool) → is_use a.0 a.1 b ≡ t → (if t then rest pre q else None) ≡ Some r
        → (rest pre q ≡ Some r → Begins (place pre) (place q))
        → Begins (place (a ∷ pre)) (place (b ∷ q))
    by true e p more = (use_is a b e, more p)
    by false e p more = absurd (none-some r p)

pub rest_begins : (pre q : Place) → Begins (place pre) (place q) → (r : Place) × (rest pre q ≡ Some r)
rest_begins [] q h = (q, refl)
rest_begins (a ∷ pre) [] h = absurd h
rest_begins (a ∷ pre) (b ∷ q) h =
    let m = rest_begins pre q h.1 in
    (m.0, ap (λ t. if t then rest pre q else None) (is_use_of a b h.0) ∙ m.1)

-- a place in use u of child k begins with the parent's and that use
pub in_use : (pre : Place) (k u : ℕ) (q : Place) → begun (is_use k u) (rest pre q) ≡ true → Begins (place (pre ++ (k, u) ∷ [])) (place q)
in_use pre k u q h = by (rest pre q) refl h
  where
    by : (o : Option Place) → rest pre q ≡ o → begun (is_use k u) o ≡ true → Begins (place (pre ++ (k, u) ∷ [])) (place q)
    by None e p = absurd (false≢true p)
    by (Some []) e p = absurd (false≢true p)
    by (Some (b ∷ r)) e p = begins_rest (pre ++ (k, u) ∷ []) q r
        (rest_more pre k u q ∙ ap (one_down k u) e ∙ ap (λ t. if t then Some r else None) p)

pub use_begun : (pre : Place) (k u : ℕ) (q : Place) → Begins (place (pre ++ (k, u) ∷ [])) (place q) → begun (is_use k u) (rest pre q) ≡ true
use_begun pre k u q h =
    let m = rest_begins (pre ++ (k, u) ∷ []) q h in by (rest pre q) m.0 (sym (rest_more pre k u q) ∙ m.1)
  where
    yes : (b : ℕ × ℕ) (r s : Place) (t : Bool) → (if t then Some r else None) ≡ Some s → t ≡ true
    yes b r s true p = refl
    yes b r s false p = absurd (none-some s p)

    by : (o : Option Place) (s : Place) → one_down k u o ≡ Some s → begun (is_use k u) o ≡ true
    by None s p = absurd (none-some s p)
    by (Some []) s p = absurd (none-some s p)
    by (Some (b ∷ r)) s p = yes b r s (is_use k u b) p

pub before_is : (a b : ℕ × ℕ) → IsBefore (pair a) (pair b) → is_after_use a.0 a.1 b ≡ true
before_is a b (inl l) = let m : a.0 < b.0 = l in grind (arith, nat_tests)
before_is a b (inr h) = let c : a.0 ≡ b.0 = h.0 in let l : a.1 < b.1 = h.1 in grind (arith, nat_tests)

lt_of : (m n : ℕ) → nat_lt m n ≡ true → m < n
lt_of m n h = grind (arith, nat_tests)

same_of : (m n : ℕ) → (m == n) ≡ true → n ≡ m
same_of m n h = grind (arith, nat_tests)

pub is_before : (a b : ℕ × ℕ) → is_after_use a.0 a.1 b ≡ true → IsBefore (pair a) (pair b)
is_before a b h = by (or_true (nat_lt a.0 b.0) (b.0 == a.0 && nat_lt a.1 b.1) h)
  where
    by : (nat_lt a.0 b.0 ≡ true) ⊎ ((b.0 == a.0 && nat_lt a.1 b.1) ≡ true) → IsBefore (pair a) (pair b)
    by (inl x) = inl (lt_of a.0 b.0 x)
    by (inr x) = let y = and_true (b.0 == a.0) (nat_lt a.1 b.1) x in inr (same_of b.0 a.0 y.0, lt_of a.1 b.1 y.1)

-- a hit under a pair
hit_under : (t : ℕ × ℕ → Bool) (a b : ℕ × ℕ) (pre q : Place)
    → hit t (a ∷ pre) (b ∷ q) ≡ (is_after_use a.0 a.1 b || (is_use a.0 a.1 b && hit t pre q))
hit_under t a b pre q = by (is_after_use a.0 a.1 b) (is_use a.0 a.1 b)
  where
    by : (v w : Bool) → ((v || (w && past pre q)) || begun t (if w then rest pre q else None))
        ≡ (v || (w && (past pre q || begun t (rest pre q))))
    by true w = refl
    by false true = refl
    by false false = refl

later_child : (k : ℕ) → ℕ × ℕ → Bool
later_child k a = nat_lt k a.0

pub behind_hit : (pre : Place) (k : ℕ) (q : Place) → IsBehind (place pre) k (place q) → hit (λ a. nat_lt k a.0) pre q ≡ true
behind_hit [] k [] h = absurd h
behind_hit [] k (b ∷ q) h = let l : k < b.0 = h in grind (arith, nat_tests)
behind_hit (a ∷ pre) k [] h = absurd h
behind_hit (a ∷ pre) k (b ∷ q) (inl l) =
    hit_under (λ a. nat_lt k a.0) a b pre q
    ∙ or_left (is_after_use a.0 a.1 b) (is_use a.0 a.1 b && hit (λ a. nat_lt k a.0) pre q) (before_is a b l)
behind_hit (a ∷ pre) k (b ∷ q) (inr (e, h)) =
    hit_under (λ a. nat_lt k a.0) a b pre q
    ∙ or_right (is_after_use a.0 a.1 b) (is_use a.0 a.1 b && hit (λ a. nat_lt k a.0) pre q)
    (and_both (is_use a.0 a.1 b) (hit (λ a. nat_lt k a.0) pre q) (is_use_of a b e) (behind_hit pre k q h))

pub hit_behind : (pre : Place) (k : ℕ) (q : Place) → hit (λ a. nat_lt k a.0) pre q ≡ true → IsBehind (place pre) k (place q)
hit_behind [] k [] h = absurd (false≢true h)
hit_behind [] k (b ∷ q) h = lt_of k b.0 h
hit_behind (a ∷ pre) k [] h = absurd (false≢true h)
hit_behind (a ∷ pre) k (b ∷ q) h =
    by (or_true (is_after_use a.0 a.1 b) (is_use a.0 a.1 b && hit (λ a. nat_lt k a.0) pre q)
    (sym (hit_under (λ a. nat_lt k a.0) a b pre q) ∙ h))
    (hit_behind pre k q)
  where
    by : (is_after_use a.0 a.1 b ≡ true) ⊎ ((is_use a.0 a.1 b && hit (λ a. nat_lt k a.0) pre q) ≡ true)
        → (hit (λ a. nat_lt k a.0) pre q ≡ true → IsBehind (place pre) k (place q)) → IsBehind (place (a ∷ pre)) k (place (b ∷ q))
    by (inl x) more = inl (is_before a b x)
    by (inr x) more =
        let y = and_true (is_use a.0 a.1 b) (hit (λ a. nat_lt k a.0) pre q) x in inr (use_is a b y.0, more y.1)

-- what is after a use of a child is past that use
pub hit_is_past : (pre : Place) (k u : ℕ) (q : Place) → hit (is_after_use k u) pre q ≡ past (pre ++ (k, u) ∷ []) q
hit_is_past [] k u [] = refl
hit_is_past [] k u (b ∷ q) = by (is_after_use k u b) (is_use k u b)
  where
    by : (v w : Bool) → v ≡ (v || (w && false))
    by true w = refl
    by false true = refl
    by false false = refl
hit_is_past (a ∷ pre) k u [] = refl
hit_is_past (a ∷ pre) k u (b ∷ q) =
    hit_under (is_after_use k u) a b pre q
    ∙ ap (λ v. is_after_use a.0 a.1 b || (is_use a.0 a.1 b && v)) (hit_is_past pre k u q)

pub pos_same : (t v : Place → Bool) → ((q : Place) → t q ≡ v q) → (i end : ℕ) (g : List (Option Place)) → pos t i g end ≡ pos v i g end
pos_same t v e i end [] = refl
pos_same t v e i end (None ∷ g) = pos_same t v e (i + 1) end g
pos_same t v e i end (Some q ∷ g) =
    ap (λ b. if b then i else pos t (i + 1) g end) (e q) ∙ ap (λ n. if v q then i else n) (pos_same t v e (i + 1) end g)

-- the first place of which something holds, or none of which it does
pub pos_is : (Q : old.Place → Type 0) (t : Place → Bool) → ((q : Place) → t q ≡ true → Q (place q))
    → ((q : Place) → Q (place q) → t q ≡ true)
    → (i end : ℕ) (g : List (Option Place))
    → ((n : ℕ) × IsFirstAt Q (given g) n × (pos t i g end ≡ n + i)) ⊎ (IsNowhere Q (given g) × (pos t i g end ≡ end))
pos_is Q t to from i end [] = inr (tt, refl)
pos_is Q t to from i end (None ∷ g) = by (pos_is Q t to from (i + 1) end g)
  where
    by : ((n : ℕ) × IsFirstAt Q (given g) n × (pos t (i + 1) g end ≡ n + (i + 1))) ⊎ (IsNowhere Q (given g) × (pos t (i + 1) g end ≡ end))
        → ((n : ℕ) × IsFirstAt Q (given (None ∷ g)) n × (pos t (i + 1) g end ≡ n + i))
        ⊎ (IsNowhere Q (given (None ∷ g)) × (pos t (i + 1) g end ≡ end))
    by (inl x) = inl (suc x.0, (tt, x.1), (let e : pos t (i + 1) g end ≡ x.0 + (i + 1) = x.2 in omega arith))
    by (inr x) = inr ((tt, x.0), x.1)
pos_is Q t to from i end (Some q ∷ g) = by (t q) refl (pos_is Q t to from (i + 1) end g)
  where
    by : (b : Bool) → t q ≡ b
        → ((n : ℕ) × IsFirstAt Q (given g) n × (pos t (i + 1) g end ≡ n + (i + 1))) ⊎ (IsNowhere Q (given g) × (pos t (i + 1) g end ≡ end))
        → ((n : ℕ) × IsFirstAt Q (given (Some q ∷ g)) n × ((if b then i else pos t (i + 1) g end) ≡ n + i))
        ⊎ (IsNowhere Q (given (Some q ∷ g)) × ((if b then i else pos t (i + 1) g end) ≡ end))
    by true e more = inl (0, to q e, omega arith)
    by false e (inl x) =
        inl (
          suc x.0,
          ((λ h. true≢false (sym (from q h) ∙ e)), x.1),
          (let f : pos t (i + 1) g end ≡ x.0 + (i + 1) = x.2 in omega arith),
        )
    by false e (inr x) = inr (((λ h. true≢false (sym (from q h) ∙ e)), x.0), x.1)
