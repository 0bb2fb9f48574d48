-- The placed segments of a body within one repetition of a parent, and the first of them that passes a test.
use Rattle.std.proofs.Common.{◌≡◌, ℕ, ◌+◌, ◌⊎◌, inl, inr, List, [], ◌∷◌, ◌++◌, map, Bool, true, false, ◌&&◌, ◌||◌}
use Rattle.std.proofs.Common.{Option, Some, None, refl, sym, ap, ◌∙◌, arith}
use Rattle.std.specs.Prelude.{if◌then◌else◌, option_map, filter, find}
use Rattle.std.specs.Option.{option_map_or, option_or}
use Rattle.std.proofs.lemmas.Bool.{false≢true}
use Rattle.std.proofs.lemmas.Bool.Decides.{nat_tests}
use Rattle.guide_tree.specs.Tree.{Trees}
use Rattle.night_definition.specs.Segments.{Elements}
use Rattle.night_definition.specs.Guides.{fits}
use Rattle.night_definition.specs.Places.{Place, Spot, Placed, placing, next_spots}
use Rattle.night_definition.specs.Structure.{Standing, stands, is_use, is_after_use, first_at, deeper, within}
use Rattle.night_equal_structure.specs.UseFaults.{standings_of}

-- what is left of a place after the way to a parent, if it begins with that
abbrev pub rest : (pre q : Place) → Option Place
rest [] q = Some q
rest (a ∷ pre) [] = None
rest (a ∷ pre) (b ∷ q) = if is_use a.0 a.1 b then rest pre q else None

abbrev pub one_down : (k u : ℕ) → Option Place → Option Place
one_down k u None = None
one_down k u (Some []) = None
one_down k u (Some (b ∷ r)) = if is_use k u b then Some r else None

pub rest_more : (pre : Place) (k u : ℕ) (q : Place) → rest (pre ++ (k, u) ∷ []) q ≡ one_down k u (rest pre q)
rest_more [] k u [] = refl
rest_more [] k u (b ∷ q) = refl
rest_more (a ∷ pre) k u [] = refl
rest_more (a ∷ pre) k u (b ∷ q) = by (is_use a.0 a.1 b) (rest_more pre k u q)
  where
    by : (t : Bool) → rest (pre ++ (k, u) ∷ []) q ≡ one_down k u (rest pre q)
        → (if t then rest (pre ++ (k, u) ∷ []) q else None) ≡ one_down k u (if t then rest pre q else None)
    by true more = more
    by false more = refl

-- a standing before others, if there is one
abbrev pub standing : ℕ → Option Place → List Standing → List Standing
standing i None xs = xs
standing i (Some r) xs = (i, r) ∷ xs

-- the segments of a parent's repetition, from a position on
abbrev pub here : (pre : Place) → ℕ → List (Option Place) → List Standing
here pre i [] = []
here pre i (None ∷ g) = here pre (i + 1) g
here pre i (Some q ∷ g) = standing i (rest pre q) (here pre (i + 1) g)

within_one : (k u i : ℕ) (o : Option Place) (xs : List Standing)
    → within k u (standing i o xs) ≡ standing i (one_down k u o) (within k u xs)
within_one k u i None xs = refl
within_one k u i (Some []) xs = refl
within_one k u i (Some (b ∷ r)) xs = by (is_use k u b)
  where
    by : (t : Bool) → map deeper (if t then (i, b ∷ r) ∷ filter (stands (is_use k u)) xs else filter (stands (is_use k u)) xs)
        ≡ standing i (if t then Some r else None) (within k u xs)
    by true = refl
    by false = refl

pub within_here : (pre : Place) (k u i : ℕ) (g : List (Option Place)) → within k u (here pre i g) ≡ here (pre ++ (k, u) ∷ []) i g
within_here pre k u i [] = refl
within_here pre k u i (None ∷ g) = within_here pre k u (i + 1) g
within_here pre k u i (Some q ∷ g) =
    within_one k u i (rest pre q) (here pre (i + 1) g)
    ∙ ap (λ xs. standing i (one_down k u (rest pre q)) xs) (within_here pre k u (i + 1) g)
    ∙ ap (λ o. standing i o (here (pre ++ (k, u) ∷ []) (i + 1) g)) (sym (rest_more pre k u q))

-- the places of a body's segments
abbrev pub given_of : List Placed → List (Option Place)
given_of placed = map (λ (p : Placed). option_map (λ (x : Spot). x.place) p.spot) placed

pub here_root : (ts : Trees) (last : Option Place) (n : ℕ) (body : List Elements)
    → standings_of (placing ts last n body) ≡ here [] n (given_of (placing ts last n body))
here_root ts last n [] = refl
here_root ts last n (s ∷ body) =
    by (find (λ (x : Spot). fits x.slot s) (next_spots ts last)) (λ l. here_root ts l (n + 1) body)
  where
    by : (o : Option Spot)
        → ((l : Option Place) → standings_of (placing ts l (n + 1) body) ≡ here [] (n + 1) (given_of (placing ts l (n + 1) body)))
        → standings_of (record { position = n; segment = s; spot = o }
        ∷ placing ts (option_or (option_map (λ (x : Spot). x.place) o) last) (n + 1) body)
        ≡ here [] n (given_of (record { position = n; segment = s; spot = o }
        ∷ placing ts (option_or (option_map (λ (x : Spot). x.place) o) last) (n + 1) body))
    by None more = more last
    by (Some x) more = ap (λ xs. (n, x.place) ∷ xs) (more (Some x.place))

-- a test of the next step after a parent's place
abbrev pub begun : (ℕ × ℕ → Bool) → Option Place → Bool
begun t None = false
begun t (Some []) = false
begun t (Some (b ∷ r)) = t b

pub first_one : (t : ℕ × ℕ → Bool) (i e : ℕ) (o : Option Place) (xs : List Standing)
    → first_at t (standing i o xs) e ≡ (if begun t o then i else first_at t xs e)
first_one t i e None xs = refl
first_one t i e (Some []) xs = refl
first_one t i e (Some (b ∷ r)) xs = by (t b)
  where
    by : (v : Bool) → option_map_or (λ (x : Standing). x.0) (if v then Some (i, b ∷ r) else find (stands t) xs) e
        ≡ (if v then i else first_at t xs e)
    by true = refl
    by false = refl

-- a place is after all of a parent's
abbrev pub past : (pre q : Place) → Bool
past [] q = false
past (a ∷ pre) [] = false
past (a ∷ pre) (b ∷ q) = is_after_use a.0 a.1 b || (is_use a.0 a.1 b && past pre q)

-- or it is in the parent and its next step passes a test
abbrev pub hit : (ℕ × ℕ → Bool) → (pre q : Place) → Bool
hit t pre q = past pre q || begun t (rest pre q)

-- the position of the first place that passes a test, or the end
abbrev pub pos : (Place → Bool) → ℕ → List (Option Place) → (end : ℕ) → ℕ
pos t i [] end = end
pos t i (None ∷ g) end = pos t (i + 1) g end
pos t i (Some q ∷ g) end = if t q then i else pos t (i + 1) g end

-- a use isn't after itself
after_not_use : (k u : ℕ) (b : ℕ × ℕ) → is_after_use k u b ≡ true → is_use k u b ≡ false
after_not_use k u b h = grind (arith, nat_tests)

pub past_not_in : (pre q : Place) → past pre q ≡ true → rest pre q ≡ None
past_not_in [] q h = absurd (false≢true h)
past_not_in (a ∷ pre) [] h = absurd (false≢true h)
past_not_in (a ∷ pre) (b ∷ q) h = by (is_after_use a.0 a.1 b) refl (is_use a.0 a.1 b) refl h (past_not_in pre q)
  where
    by : (v : Bool) → is_after_use a.0 a.1 b ≡ v → (w : Bool) → is_use a.0 a.1 b ≡ w → (v || (w && past pre q)) ≡ true
        → (past pre q ≡ true → rest pre q ≡ None) → (if w then rest pre q else None) ≡ None
    by true e true f p more = absurd (false≢true (sym (after_not_use a.0 a.1 b e) ∙ f))
    by true e false f p more = refl
    by false e true f p more = more p
    by false e false f p more = refl

-- a place comes after another, or in it: what comes later is so
abbrev pub Rises : Place → Place → Type 0
Rises [] q = Unit {0}
Rises (a ∷ p) [] = ⊥
Rises (a ∷ p) (b ∷ q) = (is_after_use a.0 a.1 b ≡ true) ⊎ ((is_use a.0 a.1 b ≡ true) × Rises p q)

-- all places that are given later
abbrev pub AllRise : Place → List (Option Place) → Type 0
AllRise p [] = Unit {0}
AllRise p (None ∷ g) = AllRise p g
AllRise p (Some q ∷ g) = Rises p q × AllRise p g

-- each place rises to those after it
abbrev pub AreRising : List (Option Place) → Type 0
AreRising [] = Unit {0}
AreRising (None ∷ g) = AreRising g
AreRising (Some q ∷ g) = AllRise q g × AreRising g

pub after_trans : (k u : ℕ) (b c : ℕ × ℕ) → is_after_use k u b ≡ true → is_after_use b.0 b.1 c ≡ true → is_after_use k u c ≡ true
after_trans k u b c g h = grind (arith, nat_tests)

pub after_use : (k u : ℕ) (b c : ℕ × ℕ) → is_after_use k u b ≡ true → is_use b.0 b.1 c ≡ true → is_after_use k u c ≡ true
after_use k u b c g h = grind (arith, nat_tests)

pub use_after : (k u : ℕ) (b c : ℕ × ℕ) → is_use k u b ≡ true → is_after_use b.0 b.1 c ≡ true → is_after_use k u c ≡ true
use_after k u b c g h = grind (arith, nat_tests)

pub use_use : (k u : ℕ) (b c : ℕ × ℕ) → is_use k u b ≡ true → is_use b.0 b.1 c ≡ true → is_use k u c ≡ true
use_use k u b c g h = grind (arith, nat_tests)

pub or_true : (a b : Bool) → (a || b) ≡ true → (a ≡ true) ⊎ (b ≡ true)
or_true true b h = inl refl
or_true false b h = inr h

pub and_true : (a b : Bool) → (a && b) ≡ true → (a ≡ true) × (b ≡ true)
and_true true b h = (refl, h)
and_true false b h = absurd (false≢true h)

pub or_left : (a b : Bool) → a ≡ true → (a || b) ≡ true
or_left true b h = refl
or_left false b h = absurd (false≢true h)

pub or_right : (a b : Bool) → b ≡ true → (a || b) ≡ true
or_right true b h = refl
or_right false b h = h

pub and_both : (a b : Bool) → a ≡ true → b ≡ true → (a && b) ≡ true
and_both true b g h = h
and_both false b g h = absurd (false≢true g)

-- what is after a parent stays after it
pub past_later : (pre p q : Place) → past pre p ≡ true → Rises p q → past pre q ≡ true
past_later [] p q h r = absurd (false≢true h)
past_later (a ∷ pre) [] q h r = absurd (false≢true h)
past_later (a ∷ pre) (b ∷ p) [] h r = absurd r
past_later (a ∷ pre) (b ∷ p) (c ∷ q) h (inl l) =
    by (or_true (is_after_use a.0 a.1 b) (is_use a.0 a.1 b && past pre p) h)
  where
    by : (is_after_use a.0 a.1 b ≡ true) ⊎ ((is_use a.0 a.1 b && past pre p) ≡ true)
        → (is_after_use a.0 a.1 c || (is_use a.0 a.1 c && past pre q)) ≡ true
    by (inl x) = or_left (is_after_use a.0 a.1 c) (is_use a.0 a.1 c && past pre q) (after_trans a.0 a.1 b c x l)
    by (inr x) = or_left (is_after_use a.0 a.1 c) (is_use a.0 a.1 c && past pre q)
        (use_after a.0 a.1 b c (and_true (is_use a.0 a.1 b) (past pre p) x).0 l)
past_later (a ∷ pre) (b ∷ p) (c ∷ q) h (inr (e, r)) =
    by (or_true (is_after_use a.0 a.1 b) (is_use a.0 a.1 b && past pre p) h) (λ m. past_later pre p q m r)
  where
    by : (is_after_use a.0 a.1 b ≡ true) ⊎ ((is_use a.0 a.1 b && past pre p) ≡ true) → (past pre p ≡ true → past pre q ≡ true)
        → (is_after_use a.0 a.1 c || (is_use a.0 a.1 c && past pre q)) ≡ true
    by (inl x) more = or_left (is_after_use a.0 a.1 c) (is_use a.0 a.1 c && past pre q) (after_use a.0 a.1 b c x e)
    by (inr x) more = or_right (is_after_use a.0 a.1 c) (is_use a.0 a.1 c && past pre q)
        (and_both (is_use a.0 a.1 c) (past pre q) (use_use a.0 a.1 b c (and_true (is_use a.0 a.1 b) (past pre p) x).0 e)
        (more (and_true (is_use a.0 a.1 b) (past pre p) x).1))

-- after a place that is after the parent nothing more of the parent comes
none_here : (pre p : Place) (i : ℕ) (g : List (Option Place)) → past pre p ≡ true → AllRise p g → here pre i g ≡ []
none_here pre p i [] h r = refl
none_here pre p i (None ∷ g) h r = none_here pre p (i + 1) g h r
none_here pre p i (Some q ∷ g) h r =
    ap (λ o. standing i o (here pre (i + 1) g)) (past_not_in pre q (past_later pre p q h r.0))
    ∙ none_here pre p (i + 1) g h r.1

-- the first of the parent's that passes a test, or else the first after the parent, is the first that does either
pub first_is_pos : (t : ℕ × ℕ → Bool) (pre : Place) (i end : ℕ) (g : List (Option Place)) → AreRising g
    → first_at t (here pre i g) (pos (past pre) i g end) ≡ pos (hit t pre) i g end
first_is_pos t pre i end [] r = refl
first_is_pos t pre i end (None ∷ g) r = first_is_pos t pre (i + 1) end g r
first_is_pos t pre i end (Some q ∷ g) r =
    first_one t i (if past pre q then i else pos (past pre) (i + 1) g end) (rest pre q) (here pre (i + 1) g)
    ∙ by (past pre q) refl (begun t (rest pre q)) refl (first_is_pos t pre (i + 1) end g r.1)
  where
    by : (v : Bool) → past pre q ≡ v → (w : Bool) → begun t (rest pre q) ≡ w
        → first_at t (here pre (i + 1) g) (pos (past pre) (i + 1) g end) ≡ pos (hit t pre) (i + 1) g end
        → (if w then i else first_at t (here pre (i + 1) g) (if v then i else pos (past pre) (i + 1) g end))
        ≡ (if v || w then i else pos (hit t pre) (i + 1) g end)
    by true e true f more = refl
    by true e false f more = ap (λ xs. first_at t xs i) (none_here pre q (i + 1) g e r.0)
    by false e true f more = refl
    by false e false f more = more
