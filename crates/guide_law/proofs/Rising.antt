-- Places rise from segment to segment: what lies between two of them, and what a place leaves behind for good. No place at
-- all is the beginning.
use Rattle.std.proofs.Common.{◌≡◌, ℕ, zero, suc, ◌+◌, ◌<◌, ◌≤◌, ◌⊎◌, inl, inr, Bool, true, false, List, [], ◌∷◌, Option, Some, None}
use Rattle.std.proofs.Common.{refl, sym, ap, ◌∙◌, subst, arith}
use Rattle.guide_tree.specs.Words.{Trees, Segment, Pair, Place, use_of, IsNext, Follows, MayCome, IsPlacing, Begins, Has, IsFirstAt}
use Rattle.guide_tree.specs.Words.{IsBefore, IsBehind}
use Rattle.guide_tree.proofs.ForAbove.{pair_is}
use Rattle.guide_law.proofs.Cases.{pick}
use Rattle.guide_law.proofs.Gaps.{use_in}

abbrev pub Rises : Place → Place → Type 0
Rises [] q = Unit {0}
Rises (a ∷ p) [] = ⊥
Rises (a ∷ p) (b ∷ q) = IsBefore a b ⊎ ((a ≡ b) × Rises p q)

pub before_self : (a : Pair) → IsBefore a a → ⊥
before_self a (inl x) = omega arith
before_self a (inr x) = let y : a.use_no < a.use_no = x.1 in omega arith

before_trans : (a b c : Pair) → IsBefore a b → IsBefore b c → IsBefore a c
before_trans a b c (inl x) (inl y) = inl (omega arith)
before_trans a b c (inl x) (inr y) = inl (let e : b.child ≡ c.child = y.0 in omega arith)
before_trans a b c (inr x) (inl y) = inl (let e : a.child ≡ b.child = x.0 in omega arith)
before_trans a b c (inr x) (inr y) =
    inr (x.0 ∙ y.0, (let d : a.use_no < b.use_no = x.1 in let e : b.use_no < c.use_no = y.1 in omega arith))

-- a pair is not before itself
pub before_back : (a b : Pair) → a ≡ b → IsBefore a b → ⊥
before_back a b e l = before_self b (subst (λ (x : Pair). IsBefore x b) e l)

pub rises_trans : (p q w : Place) → Rises p q → Rises q w → Rises p w
rises_trans [] q w r s = tt
rises_trans (a ∷ p) [] w r s = absurd r
rises_trans (a ∷ p) (b ∷ q) [] r s = absurd s
rises_trans (a ∷ p) (b ∷ q) (c ∷ w) (inl x) (inl y) = inl (before_trans a b c x y)
rises_trans (a ∷ p) (b ∷ q) (c ∷ w) (inl x) (inr y) = inl (subst (λ (z : Pair). IsBefore a z) y.0 x)
rises_trans (a ∷ p) (b ∷ q) (c ∷ w) (inr x) (inl y) = inl (subst (λ (z : Pair). IsBefore z c) (sym x.0) y)
rises_trans (a ∷ p) (b ∷ q) (c ∷ w) (inr x) (inr y) = inr (x.0 ∙ y.0, rises_trans p q w x.1 y.1)

pub next_before : (in_loop : Bool) (a b : Pair) → IsNext in_loop a b → IsBefore a b
next_before in_loop a b (inl x) = inl x.0
next_before in_loop a b (inr x) = inr (sym x.0, (let u : b.use_no ≡ a.use_no + 1 = x.1 in omega arith))

follows_rises : (in_loop : Bool) (p q : Place) → Follows in_loop p q → Rises p q
follows_rises in_loop [] q f = absurd f
follows_rises in_loop (a ∷ p) [] f = absurd f
follows_rises in_loop (a ∷ p) (b ∷ q) (inl (e, f)) = inr (e, follows_rises true p q f)
follows_rises in_loop (a ∷ p) (b ∷ q) (inr (n, z)) = inl (next_before in_loop a b n)

-- the last place that was given, or the beginning
abbrev pub last_place : Option Place → Place
last_place None = []
last_place (Some p) = p

pub may_rise : (last : Option Place) (q : Place) → MayCome last q → Rises (last_place last) q
may_rise None q m = tt
may_rise (Some p) q m = follows_rises false p q m

-- between two places that begin so, each does
pub begins_between : (pre a b c : Place) → Begins pre a → Rises a b → Rises b c → Begins pre c → Begins pre b
begins_between [] a b c h r s g = tt
begins_between (x ∷ pre) [] b c h r s g = absurd h
begins_between (x ∷ pre) (a ∷ p) [] c h r s g = absurd r
begins_between (x ∷ pre) (a ∷ p) (b ∷ q) [] h r s g = absurd g
begins_between (x ∷ pre) (a ∷ p) (b ∷ q) (c ∷ w) h (inr (e, r)) (inr (f, s)) g =
    (h.0 ∙ e, begins_between pre p q w h.1 r s g.1)
begins_between (x ∷ pre) (a ∷ p) (b ∷ q) (c ∷ w) h (inr (e, r)) (inl l) g =
    absurd (before_back b c (sym e ∙ sym h.0 ∙ g.0) l)
begins_between (x ∷ pre) (a ∷ p) (b ∷ q) (c ∷ w) h (inl l) (inr (f, s)) g =
    absurd (before_back a b (sym h.0 ∙ g.0 ∙ sym f) l)
begins_between (x ∷ pre) (a ∷ p) (b ∷ q) (c ∷ w) h (inl l) (inl m) g =
    absurd (before_back a c (sym h.0 ∙ g.0) (before_trans a b c l m))

-- what is after a child stays after it
pub behind_later : (parent : Place) (k : ℕ) (a b : Place) → IsBehind parent k a → Rises a b → IsBehind parent k b
behind_later [] k [] b h r = absurd h
behind_later [] k (a ∷ p) [] h r = absurd r
behind_later [] k (a ∷ p) (b ∷ q) h (inl (inl l)) = omega arith
behind_later [] k (a ∷ p) (b ∷ q) h (inl (inr (e, l))) = omega arith
behind_later [] k (a ∷ p) (b ∷ q) h (inr (e, r)) = let c = ap (λ (x : Pair). x.child) e in omega arith
behind_later (x ∷ w) k [] b h r = absurd h
behind_later (x ∷ w) k (a ∷ p) [] h r = absurd r
behind_later (x ∷ w) k (a ∷ p) (b ∷ q) (inl l) (inl m) = inl (before_trans x a b l m)
behind_later (x ∷ w) k (a ∷ p) (b ∷ q) (inl l) (inr (e, r)) = inl (subst (λ (y : Pair). IsBefore x y) e l)
behind_later (x ∷ w) k (a ∷ p) (b ∷ q) (inr (e, h)) (inl m) = inl (subst (λ (y : Pair). IsBefore y b) (sym e) m)
behind_later (x ∷ w) k (a ∷ p) (b ∷ q) (inr (e, h)) (inr (f, r)) = inr (e ∙ f, behind_later w k p q h r)

-- and isn't in the child
pub behind_not_in : (parent : Place) (k u : ℕ) (q : Place) → IsBehind parent k q → Begins (use_in parent k u) q → ⊥
behind_not_in [] k u [] h b = h
behind_not_in [] k u (a ∷ q) h b = let e = ap (λ (x : Pair). x.child) b.0 in omega arith
behind_not_in (x ∷ w) k u [] h b = h
behind_not_in (x ∷ w) k u (a ∷ q) (inl l) b = before_back x a b.0 l
behind_not_in (x ∷ w) k u (a ∷ q) (inr (e, h)) b = behind_not_in w k u q h b.1

-- what is after a child and before a place of its parent is in the parent
pub behind_parent : (parent : Place) (k : ℕ) (q w : Place) → IsBehind parent k q → Rises q w → Begins parent w
    → Begins parent q
behind_parent [] k q w h r b = tt
behind_parent (x ∷ p) k [] w h r b = absurd h
behind_parent (x ∷ p) k (a ∷ q) [] h r b = absurd b
behind_parent (x ∷ p) k (a ∷ q) (c ∷ w) (inl l) (inl m) b = absurd (before_back x c b.0 (before_trans x a c l m))
behind_parent (x ∷ p) k (a ∷ q) (c ∷ w) (inl l) (inr (f, r)) b = absurd (before_back x a (b.0 ∙ sym f) l)
behind_parent (x ∷ p) k (a ∷ q) (c ∷ w) (inr (e, h)) (inl m) b = absurd (before_back a c (sym e ∙ b.0) m)
behind_parent (x ∷ p) k (a ∷ q) (c ∷ w) (inr (e, h)) (inr (f, r)) b = (e, behind_parent p k q w h r b.1)

-- after a place of a parent there are others of it, or what is after each of its children
pub begins_or_behind : (parent : Place) (k : ℕ) (a b : Place) → Begins parent a → Rises a b
    → Begins parent b ⊎ IsBehind parent k b
begins_or_behind [] k a b h r = inl tt
begins_or_behind (x ∷ w) k [] b h r = absurd h
begins_or_behind (x ∷ w) k (a ∷ p) [] h r = absurd r
begins_or_behind (x ∷ w) k (a ∷ p) (b ∷ q) h (inl l) = inr (inl (subst (λ (y : Pair). IsBefore y b) (sym h.0) l))
begins_or_behind (x ∷ w) k (a ∷ p) (b ∷ q) h (inr (e, r)) =
    pick (begins_or_behind w k p q h.1 r) (λ g. inl (h.0 ∙ e, g)) (λ g. inr (inr (h.0 ∙ e, g)))

-- the place is in a use of the child from some number on
abbrev pub UseFrom : Place → (k v : ℕ) → Place → Type 0
UseFrom parent k v q = (u : ℕ) × (v ≤ u) × Begins (use_in parent k u) q

-- after a use of a child there is that use, a later one, or what is after the child
pub use_goes : (parent : Place) (k u : ℕ) (a b : Place) → Begins (use_in parent k u) a → Rises a b
    → IsBehind parent k b ⊎ UseFrom parent k u b
use_goes [] k u [] b h r = absurd h
use_goes [] k u (a ∷ p) [] h r = absurd r
use_goes [] k u (a ∷ p) (b ∷ q) h (inl (inl l)) = let c = ap (λ (x : Pair). x.child) h.0 in inl (omega arith)
use_goes [] k u (a ∷ p) (b ∷ q) h (inl (inr (e, l))) =
    let c = ap (λ (x : Pair). x.child) h.0 in let d = ap (λ (x : Pair). x.use_no) h.0 in
    inr (b.use_no, (omega arith), (pair_is (use_of k b.use_no) b (omega arith) refl, tt))
use_goes [] k u (a ∷ p) (b ∷ q) h (inr (e, r)) = inr (u, (omega arith), (h.0 ∙ e, tt))
use_goes (x ∷ w) k u [] b h r = absurd h
use_goes (x ∷ w) k u (a ∷ p) [] h r = absurd r
use_goes (x ∷ w) k u (a ∷ p) (b ∷ q) h (inl l) = inl (inl (subst (λ (y : Pair). IsBefore y b) (sym h.0) l))
use_goes (x ∷ w) k u (a ∷ p) (b ∷ q) h (inr (e, r)) =
    pick (use_goes w k u p q h.1 r) (λ g. inl (inr (h.0 ∙ e, g))) (λ g. inr (g.0, g.1, (h.0 ∙ e, g.2)))

-- a place is in one use of a child
pub one_use : (parent : Place) (k u v : ℕ) (a : Place) → Begins (use_in parent k u) a → Begins (use_in parent k v) a
    → u ≡ v
one_use [] k u v [] h g = absurd h
one_use [] k u v (a ∷ p) h g = ap (λ (x : Pair). x.use_no) (h.0 ∙ sym g.0)
one_use (x ∷ w) k u v [] h g = absurd h
one_use (x ∷ w) k u v (a ∷ p) h g = one_use w k u v p h.1 g.1

-- a place of the list of which P holds, after v
pub record Later (v : Place) (P : Place → Type 0) : Type 0 where
  pub place : Place
  pub holds : P place
  pub rises : Rises v place

later_behind : (v w : Place) (P : Place → Type 0) → Rises v w → Later w P → Later v P
later_behind v w P r l = record { place = l.place; holds = l.holds; rises = rises_trans v w l.place r l.rises }

pub has_later : (ts : Trees) (last : Option Place) (body : List Segment) (given : List (Option Place)) (pre : Place)
    → IsPlacing ts last body given → Has given pre → Later (last_place last) (Begins pre)
has_later ts last body [] pre pl h = absurd h
has_later ts last [] (x ∷ given) pre pl h = absurd pl
has_later ts last (s ∷ body) (None ∷ given) pre pl h = has_later ts last body given pre pl.1 h
has_later ts last (s ∷ body) (Some q ∷ given) pre pl (inl b) =
    record { place = q; holds = b; rises = may_rise last q pl.0 }
has_later ts last (s ∷ body) (Some q ∷ given) pre pl (inr h) =
    later_behind (last_place last) q (Begins pre) (may_rise last q pl.0) (has_later ts (Some q) body given pre pl.2 h)

pub first_later : (P : Place → Type 0) (ts : Trees) (last : Option Place) (body : List Segment) (given : List (Option Place))
    (i : ℕ) → IsPlacing ts last body given → IsFirstAt P given i → Later (last_place last) P
first_later P ts last body [] i pl h = absurd h
first_later P ts last [] (x ∷ given) i pl h = absurd pl
first_later P ts last (s ∷ body) (None ∷ given) zero pl h = absurd h
first_later P ts last (s ∷ body) (None ∷ given) (suc i) pl h = first_later P ts last body given i pl.1 h.1
first_later P ts last (s ∷ body) (Some q ∷ given) zero pl h =
    record { place = q; holds = h; rises = may_rise last q pl.0 }
first_later P ts last (s ∷ body) (Some q ∷ given) (suc i) pl h =
    later_behind (last_place last) q P (may_rise last q pl.0) (first_later P ts (Some q) body given i pl.2 h.1)
