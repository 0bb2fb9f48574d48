-- Where the pass meets no fault, each step of the placing misses nothing and goes past no maximum.
use Rattle.std.proofs.Common.{◌≡◌, ℕ, zero, suc, ◌+◌, ◌==◌, nat_lt, nat_le, ◌≤◌, inl, inr, Bool, true, false}
use Rattle.std.proofs.Common.{if◌then◌else◌, List, [], ◌∷◌, ◌++◌}
use Rattle.std.proofs.Common.{map, Option, Some, None, refl, sym, ap, ◌∙◌, subst, arith}
use Rattle.std.proofs.lemmas.Bool.{cond-false, cond-true}
use Rattle.std.proofs.lemmas.Bool.Decides.{nat_tests}
use Rattle.std.specs.List.{AllByRecursion}
use Rattle.hub_kinds.specs.declared.fault.Fault.{Fault}
use Rattle.hub_kinds.specs.declared.codes.SegmentCode.TheVariants as ik304
use Rattle.guide_tree.specs.declared.slot.Slot.{Slot}
use Rattle.guide_tree.specs.Words.{Tree, Trees, segment, loop, no_trees, tree, GuideTree, min_of, max_of, Segment, past_code, few_code}
use Rattle.guide_tree.specs.Words.{Pair, Place, IsFirst, Follows, IsPlacing, slot_in, slot_nth, IsDerived, IsWellFormed, placing_of}
use Rattle.guide_tree.specs.Words.{fault_of, missing, too_few, past, unused, entered, ended_in, ended, stepped_in, stepped, pass}
use Rattle.guide_tree.specs.Words.{structure_faults}
use Rattle.guide_law.proofs.Residual.{Triggered, AllTriggered, MayBeEmpty, IsStart, Enters, Closes, Ends, StepsIn, Steps, IsMetFrom, IsMet}
use Rattle.guide_law.proofs.Placed.{triggers}
use Rattle.guide_law.proofs.Meeting.{met_derived}
use Rattle.guide_law.specs.Law.{PassIsGrammar}
use Rattle.guide_law.proofs.Computed.{is_placing}
use Rattle.guide_law.proofs.Starting.{first_segment}
use Rattle.guide_law.proofs.Coming.{follow_child, next_same, next_later}
use Rattle.guide_law.proofs.Passing.{derived_clean}

left_none : (xs ys : List Fault) → xs ++ ys ≡ [] → xs ≡ []
left_none [] ys e = refl
left_none (x ∷ xs) ys e = cc

right_none : (xs ys : List Fault) → xs ++ ys ≡ [] → ys ≡ []
right_none [] ys e = e
right_none (x ∷ xs) ys e = cc

not_shown : (b : Bool) (x : Fault) → (if b then x ∷ [] else []) ≡ [] → b ≡ false
not_shown true x e = cc
not_shown false x e = refl

not_missing : (at : ℕ) (o : List ℕ) (t : Tree) → missing at o t ≡ [] → min_of t ≡ 0
not_missing at o t e =
    let b = not_shown (nat_le 1 (min_of t)) (fault_of at o ik304.RequiredSegmentMissing t) e in
    let m = min_of t in grind (arith, nat_tests)

not_few : (at : ℕ) (o : List ℕ) (n : ℕ) (t : Tree) → too_few at o n t ≡ [] → min_of t ≤ n
not_few at o n t e = let b = not_shown (nat_lt n (min_of t)) (fault_of at o (few_code t) t) e in grind (arith, nat_tests)

not_past : (at : ℕ) (o : List ℕ) (u : ℕ) (t : Tree) → past at o u t ≡ [] → u + 1 ≤ max_of t
not_past at o u t e = let b = not_shown (nat_le (max_of t) u) (fault_of at o (past_code t) t) e in grind (arith, nat_tests)

none_empty : (at : ℕ) (o : List ℕ) (ts : Trees) → unused at o ts ≡ [] → MayBeEmpty ts
none_empty at o no_trees e = tt
none_empty at o (tree t ts) e = (
  not_missing at o t (left_none (missing at o t) (unused at o ts) e),
  none_empty at o ts (right_none (missing at o t) (unused at o ts) e),
)

-- no use of the place is past a maximum
abbrev mutual
  pub KeptIn : Tree → Place → Type 0
  KeptIn (segment p) [] = Unit {0}
  KeptIn (segment p) (a ∷ q) = ⊥
  KeptIn (loop l ts) [] = ⊥
  KeptIn (loop l ts) (a ∷ q) = Kept ts a.child a.use_no q

  pub Kept : Trees → (n r : ℕ) → Place → Type 0
  Kept no_trees n r q = ⊥
  Kept (tree t ts) (suc n) r q = Kept ts n r q
  Kept (tree t ts) zero r q = KeptIn t q × (r + 1 ≤ max_of t)

mutual
  none_closes : (at : ℕ) (t : Tree) (p : Place) → ended_in at t p ≡ [] → KeptIn t p → Closes t p
  none_closes at (segment s) [] e h = tt
  none_closes at (segment s) (a ∷ p) e h = absurd h
  none_closes at (loop l ts) [] e h = absurd h
  none_closes at (loop l ts) (a ∷ p) e h = none_ends at l.id ts a.child a.use_no p e h

  none_ends : (at : ℕ) (o : List ℕ) (ts : Trees) (n r : ℕ) (p : Place) → ended at o ts n r p ≡ [] → Kept ts n r p
      → Ends ts n r p
  none_ends at o no_trees n r p e h = absurd h
  none_ends at o (tree t ts) (suc n) r p e h = none_ends at o ts n r p e h
  none_ends at o (tree t ts) zero r p e h =
      let x = left_none (ended_in at t p) (too_few at o (r + 1) t ++ unused at o ts) e in
      let y = right_none (ended_in at t p) (too_few at o (r + 1) t ++ unused at o ts) e in (
        none_closes at t p x h.0,
        not_few at o (r + 1) t (left_none (too_few at o (r + 1) t) (unused at o ts) y),
        h.1,
        none_empty at o ts (right_none (too_few at o (r + 1) t) (unused at o ts) y),
      )

first_kept : (x : Slot) (ts : Trees) (n u : ℕ) (w : Place) → n ≡ 0 → u ≡ 0 → w ≡ [] → x.max ≡ 1
    → Kept (tree (segment x) ts) n u w
first_kept x ts zero u [] n z w h = (tt, omega arith)
first_kept x ts zero u (a ∷ w) n z e h = cc
first_kept x ts (suc k) u w n z e h = absurd (omega arith)

begun : (t : Tree) (w : Place) (s : Slot) → Triggered t → AllByRecursion IsFirst w → slot_in t w ≡ Some s
    → IsStart t w × KeptIn t w
begun (segment x) [] s h f e = (tt, tt)
begun (segment x) (a ∷ w) s h f e = cc
begun (loop l ts) [] s h f e = cc
begun (loop l no_trees) (a ∷ w) s h f e = cc
begun (loop l (tree (loop k us) ts)) (a ∷ w) s h f e = absurd h.0
begun (loop l (tree (segment x) ts)) (a ∷ w) s h f e =
    let r = first_segment x s ts a.child w f.0.0 e in
    ((f.0, r.0), first_kept x ts a.child a.use_no w f.0.0 f.0.1 r.0 h.0.1)

none_enters : (at : ℕ) (o : List ℕ) (ts : Trees) (m u : ℕ) (w : Place) (s : Slot) → entered at o ts m u ≡ []
    → AllTriggered ts → AllByRecursion IsFirst w → slot_nth ts m w ≡ Some s → u ≡ 0 → Enters ts m w × Kept ts m u w
none_enters at o no_trees m u w s e h f g z = cc
none_enters at o (tree t ts) zero u w s e h f g z =
    let top = not_past at o u t e in
    let r = begun t w s h.0 f g in
    ((omega arith, r.0), (r.1, top))
none_enters at o (tree t ts) (suc m) u w s e h f g z =
    let r = none_enters at o ts m u w s (right_none (missing at o t) (entered at o ts m u) e) h.1 f g z in
    ((not_missing at o t (left_none (missing at o t) (entered at o ts m u) e), r.0), r.1)

mutual
  none_steps_in : (at : ℕ) (t : Tree) (p w : Place) (s : Slot) → stepped_in at t p w ≡ [] → Triggered t → Follows true p w
      → slot_in t w ≡ Some s → KeptIn t p → StepsIn t p w × KeptIn t w
  none_steps_in at (segment x) [] w s e h f g k = absurd f
  none_steps_in at (segment x) (a ∷ p) w s e h f g k = absurd k
  none_steps_in at (loop l ts) [] w s e h f g k = absurd f
  none_steps_in at (loop l ts) (a ∷ p) [] s e h f g k = absurd f
  none_steps_in at (loop l ts) (a ∷ p) (b ∷ w) s e h f g k =
      none_steps at l.id true ts 0 a.child b.child a b p w s (omega arith) (omega arith) e h.1 f g k

  none_steps : (at : ℕ) (o : List ℕ) (il : Bool) (ts : Trees) (k n m : ℕ) (a b : Pair) (p w : Place) (s : Slot)
      → a.child ≡ k + n → b.child ≡ k + m → stepped at o ts n m a.use_no b.use_no p w ≡ [] → AllTriggered ts
      → Follows il (a ∷ p) (b ∷ w) → slot_nth ts m w ≡ Some s → Kept ts n a.use_no p
      → Steps ts n a.use_no p m b.use_no w × Kept ts m b.use_no w
  none_steps at o il no_trees k n m a b p w s c d e h f g x = absurd x
  none_steps at o il (tree t ts) k (suc n) zero a b p w s c d e h f g x =
      let l = follow_child il a b p w f in absurd (omega arith)
  none_steps at o il (tree t ts) k (suc n) (suc m) a b p w s c d e h f g x =
      none_steps at o il ts (k + 1) n m a b p w s (omega arith) (omega arith) e h.1 f g x
  none_steps at o il (tree t ts) k zero zero a b p w s c d e h (inl (y, f)) g x =
      let z : b.use_no ≡ a.use_no = sym (ap (λ (v : Pair). v.use_no) y) in
      let inner =
      sym (cond-true (a.use_no == b.use_no) (stepped_in at t p w) (ended_in at t p ++ past at o b.use_no t)
      (grind (arith, nat_tests))) ∙ e in
      let r = none_steps_in at t p w s inner h.0 f g x.0 in
      (inl (z, r.0), (r.1, (let l = x.1 in omega arith)))
  none_steps at o il (tree t ts) k zero zero a b p w s c d e h (inr (n, f)) g x =
      let y = (next_same il a b n (omega arith)).1 in
      let z : b.use_no ≡ a.use_no + 1 = ap (λ (v : Pair). v.use_no) y in
      let inner =
      sym (cond-false (a.use_no == b.use_no) (stepped_in at t p w) (ended_in at t p ++ past at o b.use_no t)
      (grind (arith, nat_tests))) ∙ e in
      let top = not_past at o b.use_no t (right_none (ended_in at t p) (past at o b.use_no t) inner) in
      let q = begun t w s h.0 f g in
      (inr (none_closes at t p (left_none (ended_in at t p) (past at o b.use_no t) inner) x.0, z, top, q.0), (q.1, top))
  none_steps at o il (tree t ts) k zero (suc m) a b p w s c d e h (inl (y, f)) g x =
      let v = ap (λ (z : Pair). z.child) y in absurd (omega arith)
  none_steps at o il (tree t ts) k zero (suc m) a b p w s c d e h (inr (n, f)) g x =
      let z = next_later il a b n (omega arith) in
      let rest = right_none (ended_in at t p) (too_few at o (a.use_no + 1) t ++ entered at o ts m b.use_no) e in
      let r =
      none_enters at o ts m b.use_no w s
      (right_none (too_few at o (a.use_no + 1) t) (entered at o ts m b.use_no) rest) h.1 f g z in (
        (
          none_closes at t p (left_none (ended_in at t p) (too_few at o (a.use_no + 1) t ++ entered at o ts m b.use_no) e) x.0,
          not_few at o (a.use_no + 1) t (left_none (too_few at o (a.use_no + 1) t) (entered at o ts m b.use_no) rest),
          x.1,
          z,
          r.0,
        ),
        r.1,
      )

pub record Clean (given : List (Option Place)) (Is : List Place → Type 0) : Type 1 where
  pub places : List Place
  pub is : given ≡ map Some places
  pub met : Is places

clean_from : (g : GuideTree) (end at : ℕ) (a : Pair) (p : Place) (body : List Segment) (given : List (Option Place))
    → AllTriggered g.nodes → Kept g.nodes a.child a.use_no p → IsPlacing g.nodes (Some (a ∷ p)) body given
    → pass g end at (Some (a ∷ p)) body given ≡ [] → Clean given (IsMetFrom g.nodes a.child a.use_no p)
clean_from g end at a p [] [] h x pl e =
    record { places = []; is = refl; met = none_ends end [] g.nodes a.child a.use_no p e x }
clean_from g end at a p [] (y ∷ given) h x pl e = absurd pl
clean_from g end at a p (s ∷ body) [] h x pl e = absurd pl
clean_from g end at a p (s ∷ body) (None ∷ given) h x pl e = cc
clean_from g end at a p (s ∷ body) (Some [] ∷ given) h x pl e = absurd pl.0
clean_from g end at a p (s ∷ body) (Some (b ∷ w) ∷ given) h x (m, f, pl) e =
    let here = stepped at [] g.nodes a.child b.child a.use_no b.use_no p w in
    let later = pass g end (at + 1) (Some (b ∷ w)) body given in
    let r = none_steps at [] false g.nodes 0 a.child b.child a b p w f.0 (omega arith) (omega arith)
    (left_none here later e) h m f.1 x in
    let c = clean_from g end (at + 1) b w body given h r.1 pl (right_none here later e) in
    record { places = (b ∷ w) ∷ c.places; is = ap (λ (l : List (Option Place)). Some (b ∷ w) ∷ l) c.is; met = (r.0, c.met) }

pub clean : (g : GuideTree) (end : ℕ) (body : List Segment) (given : List (Option Place)) → AllTriggered g.nodes
    → IsPlacing g.nodes None body given → structure_faults g end body given ≡ [] → Clean given (IsMet g.nodes)
clean g end [] [] h pl e = record { places = []; is = refl; met = none_empty end [] g.nodes e }
clean g end [] (y ∷ given) h pl e = absurd pl
clean g end (s ∷ body) [] h pl e = absurd pl
clean g end (s ∷ body) (None ∷ given) h pl e = cc
clean g end (s ∷ body) (Some [] ∷ given) h pl e = absurd pl.0
clean g end (s ∷ body) (Some (b ∷ w) ∷ given) h (m, f, pl) e =
    let here = entered 2 [] g.nodes b.child b.use_no in
    let later = pass g end 3 (Some (b ∷ w)) body given in
    let r = none_enters 2 [] g.nodes b.child b.use_no w f.0 (left_none here later e) h m.1 f.1 m.0 in
    let c = clean_from g end 3 b w body given h r.1 pl (right_none here later e) in
    record { places = (b ∷ w) ∷ c.places; is = ap (λ (l : List (Option Place)). Some (b ∷ w) ∷ l) c.is; met = (m.0, r.0, c.met) }

clean_derived : (g : GuideTree) → IsWellFormed g → (body : List Segment) (end : ℕ)
    → structure_faults g end body (placing_of g.nodes body) ≡ [] → IsDerived g.nodes body
clean_derived g w body end e =
    let h = triggers g w in
    let pl = is_placing g.nodes h body in
    let c = clean g end body (placing_of g.nodes body) h pl e in
    let r = met_derived g.nodes body c.places h (subst (λ (l : List (Option Place)). IsPlacing g.nodes None body l) c.is pl) c.met in
    (r.given, r.body_is, r.derived)

pub pass_is_grammar : (g : GuideTree) → IsWellFormed g → PassIsGrammar g
pass_is_grammar g w body end = (
  (λ e. clean_derived g w body end e),
  (λ d. subst (λ (l : List Segment). structure_faults g end l (placing_of g.nodes l) ≡ []) d.1 (derived_clean g w d.0 end d.2)),
)
