-- What the pass meets at a step of a placing is what shows there.
use Rattle.std.proofs.Common.{◌≡◌, ℕ, zero, suc, ◌+◌, ◌==◌, ◌<◌, ◌≤◌, ◌⊎◌, inl, inr, Bool, true, List}
use Rattle.std.proofs.Common.{[], ◌∷◌, ◌++◌, Option, Some, None, refl, sym, ◌∙◌, ap, subst, arith}
use Rattle.std.specs.List.{AllByRecursion}
use Rattle.std.proofs.lemmas.Bool.{cond-true, cond-false, eq-eqb, ne_eqb}
use Rattle.hub_kinds.specs.declared.fault.Fault.{Fault}
use Rattle.hub_kinds.specs.declared.codes.SegmentCode.{SegmentCode}
use Rattle.hub_kinds.specs.declared.codes.SegmentCode.TheVariants as ik304
use Rattle.guide_tree.specs.declared.slot.Slot.{Slot}
use Rattle.guide_tree.specs.Words.{Tree, Trees, segment, loop, no_trees, tree, min_of, max_of, Pair, Place, use_of, IsFirst, Follows}
use Rattle.guide_tree.specs.Words.{slot_in, slot_nth, node_in, node_nth, Begins, IsBehind, past_code, fault_of, too_few, past, entered}
use Rattle.guide_tree.specs.Words.{ended_in, stepped_in, stepped}
use Rattle.guide_tree.proofs.ForAbove.{In, pair_is}
use Rattle.guide_law.proofs.Cases.{pick}
use Rattle.guide_law.proofs.Among.{in_cases}
use Rattle.guide_law.proofs.Residual.{Triggered, AllTriggered}
use Rattle.guide_law.proofs.Starting.{first_segment}
use Rattle.guide_law.proofs.Coming.{next_same}
use Rattle.guide_law.proofs.Gaps.{use_in}
use Rattle.guide_law.proofs.Rising.{before_back, next_before}
use Rattle.guide_law.proofs.Showing.{PastBy, StepBy, Shows, Level, LevelIn, level_next, level_child, level_loop}
use Rattle.guide_law.proofs.Showing.{nodes_in, ids_in, node_same, inner_before, shorts_up, steps_up}
use Rattle.guide_law.proofs.Showing.{as_step}
use Rattle.guide_law.proofs.Leaving.{Passed, passed, entered_lacks, lacks_entered, passed_entered, use_differs}
use Rattle.guide_law.proofs.Leaving.{few_shows, lacks_shows, renamed, ended_in_shows}

-- a place that is the first all along leaves no child of it behind
firsts_not_behind : (w : Place) (k : ℕ) (q : Place) → AllByRecursion IsFirst q → Begins w q → IsBehind w k q → ⊥
firsts_not_behind [] k [] f b h = h
firsts_not_behind [] k (a ∷ q) f b h = let z : a.child ≡ 0 = f.0.0 in omega arith
firsts_not_behind (x ∷ w) k [] f b h = h
firsts_not_behind (x ∷ w) k (a ∷ q) f b (inl l) = before_back x a b.0 l
firsts_not_behind (x ∷ w) k (a ∷ q) f b (inr (e, h)) = firsts_not_behind w k q f.1 b.1 h

pub begins_nothing : (w : Place) (k u : ℕ) → Begins (use_in w k u) [] → ⊥
begins_nothing [] k u h = h
begins_nothing (x ∷ w) k u h = h

first_max : (y : Slot) (ts : Trees) (n : ℕ) (node : Tree) → n ≡ 0 → y.max ≡ 1
    → node_nth (tree (segment y) ts) n [] ≡ Some node → 1 ≤ max_of node
first_max y ts zero node z m e =
    subst (λ (t : Tree). 1 ≤ max_of t) (node_same (segment y) node e) (let l : 1 ≤ y.max = omega arith in l)
first_max y ts (suc n) node z m e = absurd (omega arith)

-- what begins with a node and is the first all along is the use 0 of a trigger
start_max : (t : Tree) (q : Place) (s : Slot) (w : Place) (k u : ℕ) (node : Tree) → Triggered t → AllByRecursion IsFirst q
    → slot_in t q ≡ Some s → Begins (use_in w k u) q → node_in t (use_in w k 0) ≡ Some node → (u ≡ 0) × (1 ≤ max_of node)
start_max (segment y) [] s w k u node h f e b g = absurd (begins_nothing w k u b)
start_max (segment y) (a ∷ q) s w k u node h f e b g = cc
start_max (loop l ts) [] s w k u node h f e b g = cc
start_max (loop l no_trees) (a ∷ q) s w k u node h f e b g = absurd h.0
start_max (loop l (tree (loop m us) ts)) (a ∷ q) s w k u node h f e b g = absurd h.0
start_max (loop l (tree (segment y) ts)) (a ∷ q) s [] k u node h f e b g =
    let c = ap (λ (x : Pair). x.child) b.0 in let d = ap (λ (x : Pair). x.use_no) b.0 in
    let z : a.child ≡ 0 = f.0.0 in let o : a.use_no ≡ 0 = f.0.1 in
    ((omega arith), first_max y ts k node (omega arith) h.0.1 g)
start_max (loop l (tree (segment y) ts)) (a ∷ q) s (x ∷ w) k u node h f e b g =
    let r = first_segment y s ts a.child q f.0.0 e in
    absurd (begins_nothing w k u (subst (Begins (use_in w k u)) r.0 b.1))

start_max_nth : (us : Trees) (m : ℕ) (q : Place) (s : Slot) (w : Place) (k u : ℕ) (node : Tree) → AllTriggered us
    → AllByRecursion IsFirst q → slot_nth us m q ≡ Some s → Begins (use_in w k u) q
    → node_nth us m (use_in w k 0) ≡ Some node → (u ≡ 0) × (1 ≤ max_of node)
start_max_nth no_trees m q s w k u node h f e b g = cc
start_max_nth (tree t us) zero q s w k u node h f e b g = start_max t q s w k u node h.0 f e b g
start_max_nth (tree t us) (suc m) q s w k u node h f e b g = start_max_nth us m q s w k u node h.1 f e b g

-- in a use that begins with the next place nothing is past its greatest use, and no child is left behind
pub fresh_past : (nodes : Place → Option Tree) (ids : Place → List ℕ) (o : List ℕ) (k : ℕ) (us : Trees) (m : ℕ) (last : Place)
    (b : Pair) (q : Place) (s : Slot) (c : Pair) (w : Place) (child : ℕ) (node : Tree) (code : SegmentCode)
    → Level nodes ids o k us → AllTriggered us → b.child ≡ k + m → AllByRecursion IsFirst q → slot_nth us m q ≡ Some s
    → nodes (c ∷ use_in w child 0) ≡ Some node → PastBy last (b ∷ q) (c ∷ w) child node code → ⊥
fresh_past nodes ids o k us m last b q s c w child node code v h e f g there r =
    let t = subst (λ (x : Pair). nodes (x ∷ use_in w child 0) ≡ Some node) r.begun.0 there in
    let z = start_max_nth us m q s w child r.use_no node h f g r.begun.1 (sym (v.stands b m (use_in w child 0) e) ∙ t) in
    let l : max_of node ≤ r.use_no = r.past in let i : r.use_no ≡ 0 = z.0 in let j : 1 ≤ max_of node = z.1 in omega arith

pub fresh_short : (b : Pair) (q : Place) (c : Pair) (w : Place) (child : ℕ) → AllByRecursion IsFirst q → Begins (c ∷ w) (b ∷ q)
    → IsBehind (c ∷ w) child (b ∷ q) → ⊥
fresh_short b q c w child f g l =
    pick l (λ m. before_back c b g.0 m) (λ y. firsts_not_behind w child q f g.1 y.1)

-- the child that the next place comes to is past its greatest use
passed_shows : (nodes : Place → Option Tree) (ids : Place → List ℕ) (o : List ℕ) (at : ℕ) (last : Place) (b : Pair) (q : Place)
    (x : Fault) → ids [] ≡ o → (Begins (use_of b.child b.use_no ∷ []) last → ⊥) → Passed nodes o at b.child b.use_no x
    → Shows nodes ids at (StepBy last (b ∷ q)) x
passed_shows nodes ids o at last b q x e new r = record {
  parent = [];
  child = b.child;
  node = r.node;
  code = past_code r.node;
  there = r.there;
  holds = inr (record {
    use_no = b.use_no;
    past = r.past;
    new = new;
    begun = (pair_is (use_of b.child b.use_no) b refl refl, tt);
    is = refl;
  });
  is = r.is ∙ ap (λ (i : List ℕ). fault_of at i (past_code r.node) r.node) (sym e);
}

-- what shows where a child is come to: those passed over, and the child itself
pub entered_shows : (nodes : Place → Option Tree) (ids : Place → List ℕ) (o : List ℕ) (at k m : ℕ) (us : Trees) (last : Place)
    (b : Pair) (q : Place) (x : Fault) → Level nodes ids o k us → b.child ≡ k + m
    → ((c : ℕ) → k ≤ c → IsBehind [] c last → ⊥) → ((c u : ℕ) → k ≤ c → Begins (use_of c u ∷ []) last → ⊥)
    → In (entered at o us m b.use_no) x → Shows nodes ids at (StepBy last (b ∷ q)) x
entered_shows nodes ids o at k m us last b q x v e behind none h =
    pick (entered_lacks nodes ids o at k m b.child b.use_no us x v e h)
    (λ r. as_step last (b ∷ q) nodes ids at x
    (lacks_shows nodes ids o at k (λ d. d < b.child) last (Some (b ∷ q)) x v.outer behind (λ c l u. none c u l) (λ c z. z) r))
    (λ r. passed_shows nodes ids o at last b q x v.outer (none b.child b.use_no (omega arith)) r)

mutual
  pub stepped_in_shows : (t : Tree) (p q : Place) (nodes : Place → Option Tree) (ids : Place → List ℕ) (at : ℕ) (x : Fault)
      → LevelIn nodes ids t → Follows true p q → In (stepped_in at t p q) x → Shows nodes ids at (StepBy p q) x
  stepped_in_shows (segment y) p q nodes ids at x v f h = absurd h
  stepped_in_shows (loop l ts) [] q nodes ids at x v f h = absurd h
  stepped_in_shows (loop l ts) (a ∷ p) [] nodes ids at x v f h = absurd h
  stepped_in_shows (loop l ts) (a ∷ p) (b ∷ q) nodes ids at x v f h =
      stepped_shows true ts 0 a.child b.child a b p q nodes ids l.id at x (level_loop nodes ids l ts v) (omega arith)
      (omega arith) f h

  pub stepped_shows : (il : Bool) (us : Trees) (k n m : ℕ) (a b : Pair) (p q : Place) (nodes : Place → Option Tree)
      (ids : Place → List ℕ) (o : List ℕ) (at : ℕ) (x : Fault) → Level nodes ids o k us → a.child ≡ k + n → b.child ≡ k + m
      → Follows il (a ∷ p) (b ∷ q) → In (stepped at o us n m a.use_no b.use_no p q) x
      → Shows nodes ids at (StepBy (a ∷ p) (b ∷ q)) x
  stepped_shows il no_trees k n m a b p q nodes ids o at x v c d f h = absurd h
  stepped_shows il (tree t us) k (suc n) zero a b p q nodes ids o at x v c d f h = absurd h
  stepped_shows il (tree t us) k (suc n) (suc m) a b p q nodes ids o at x v c d f h =
      stepped_shows il us (k + 1) n m a b p q nodes ids o at x (level_next nodes ids o k t us v) (omega arith) (omega arith) f h
  stepped_shows il (tree t us) k zero zero a b p q nodes ids o at x v c d (inl (e, f)) h =
      let same = cond-true (a.use_no == b.use_no) (stepped_in at t p q) (ended_in at t p ++ past at o b.use_no t)
      (eq-eqb a.use_no b.use_no (ap (λ (y : Pair). y.use_no) e)) in
      subst (λ (y : Pair). Shows nodes ids at (StepBy (a ∷ p) (y ∷ q)) x) e
      (steps_up a p q nodes ids at x
      (stepped_in_shows t p q (nodes_in nodes a) (ids_in ids a) at x (level_child nodes ids o k a t us v (omega arith)) f
      (subst (λ (l : List Fault). In l x) same h)))
  stepped_shows il (tree t us) k zero zero a b p q nodes ids o at x v c d (inr (n, f)) h =
      let z = ap (λ (y : Pair). y.use_no) (next_same il a b n (omega arith)).1 in
      let differs = cond-false (a.use_no == b.use_no) (stepped_in at t p q) (ended_in at t p ++ past at o b.use_no t)
      (ne_eqb a.use_no b.use_no (λ e. omega arith)) in
      pick (in_cases (ended_in at t p) (past at o b.use_no t) x (subst (λ (l : List Fault). In l x) differs h))
      (λ y. as_step (a ∷ p) (b ∷ q) nodes ids at x
      (shorts_up a p (Some (b ∷ q)) None nodes ids at x (inner_before a b q (next_before il a b n))
      (ended_in_shows t p (nodes_in nodes a) (ids_in ids a) at x (level_child nodes ids o k a t us v (omega arith)) y)))
      (λ y. passed_shows nodes ids o at (a ∷ p) b q x v.outer
      (λ g. let w = ap (λ (i : Pair). i.use_no) g.0 in omega arith)
      (passed nodes ids o at k b.child b.use_no t us x v (omega arith) y))
  stepped_shows il (tree t us) k zero (suc m) a b p q nodes ids o at x v c d (inl (e, f)) h =
      absurd (let y = ap (λ (i : Pair). i.child) e in omega arith)
  stepped_shows il (tree t us) k zero (suc m) a b p q nodes ids o at x v c d (inr (n, f)) h =
      pick (in_cases (ended_in at t p) (too_few at o (a.use_no + 1) t ++ entered at o us m b.use_no) x h)
      (λ y. as_step (a ∷ p) (b ∷ q) nodes ids at x
      (shorts_up a p (Some (b ∷ q)) None nodes ids at x (inner_before a b q (next_before il a b n))
      (ended_in_shows t p (nodes_in nodes a) (ids_in ids a) at x (level_child nodes ids o k a t us v (omega arith)) y)))
      (λ y. pick (in_cases (too_few at o (a.use_no + 1) t) (entered at o us m b.use_no) x y)
      (λ z. as_step (a ∷ p) (b ∷ q) nodes ids at x
      (few_shows nodes ids o at k a p (Some (b ∷ q)) t us x v (omega arith) (omega arith) z))
      (λ z. entered_shows nodes ids o at (k + 1) m us (a ∷ p) b q x (level_next nodes ids o k t us v) (omega arith)
      (λ i l w. omega arith) (λ i u l w. use_differs a i u (omega arith) w.0) z))

-- a use that begins with the next place and is past the greatest is the child's that is come to
pub passed_by : (b : Pair) (q last : Place) (child : ℕ) (node : Tree) (code : SegmentCode) → PastBy last (b ∷ q) [] child node code
    → (child ≡ b.child) × (max_of node ≤ b.use_no) × (code ≡ past_code node)
passed_by b q last child node code r =
    let c = ap (λ (i : Pair). i.child) r.begun.0 in let d = ap (λ (i : Pair). i.use_no) r.begun.0 in
    let l : max_of node ≤ r.use_no = r.past in (c, (omega arith), r.is)

-- the other way for a child that is come to, after other children of the same nodes
pub shows_entered : (nodes : Place → Option Tree) (ids : Place → List ℕ) (o : List ℕ) (at k m : ℕ) (us : Trees) (b : Pair) (x : Fault)
    (child : ℕ) (node : Tree) (code : SegmentCode) → Level nodes ids o k us → b.child ≡ k + m
    → nodes (use_of child 0 ∷ []) ≡ Some node → x ≡ fault_of at (ids []) code node
    → ((k ≤ child) × (child < b.child) × (1 ≤ min_of node) × (code ≡ ik304.RequiredSegmentMissing))
    ⊎ ((child ≡ b.child) × (max_of node ≤ b.use_no) × (code ≡ past_code node)) → In (entered at o us m b.use_no) x
shows_entered nodes ids o at k m us b x child node code v e h f (inl (l, u, n, g)) =
    lacks_entered nodes ids o at k m b.child b.use_no us x child node v e l u h n
    (renamed at (ids []) o code ik304.RequiredSegmentMissing node x f v.outer g)
shows_entered nodes ids o at k m us b x child node code v e h f (inr (c, l, g)) =
    passed_entered nodes ids o at k m b.child b.use_no us x node v e
    (subst (λ (i : ℕ). nodes (use_of i 0 ∷ []) ≡ Some node) c h) l
    (renamed at (ids []) o code (past_code node) node x f v.outer g)

-- at the first place of all
pub shows_begun : (nodes : Place → Option Tree) (ids : Place → List ℕ) (o : List ℕ) (at : ℕ) (us : Trees) (b : Pair) (q : Place)
    (s : Slot) (x : Fault) (w : Place) (child : ℕ) (node : Tree) (code : SegmentCode) → Level nodes ids o 0 us → AllTriggered us
    → AllByRecursion IsFirst q → slot_nth us b.child q ≡ Some s → nodes (use_in w child 0) ≡ Some node
    → StepBy [] (b ∷ q) w child node code → x ≡ fault_of at (ids w) code node → In (entered at o us b.child b.use_no) x
shows_begun nodes ids o at us b q s x [] child node code v t g i h (inl r) f =
    shows_entered nodes ids o at 0 b.child us b x child node code v (omega arith) h f
    (inl ((omega arith), r.left, r.needed, pick r.cases (λ y. y.1) (λ y. absurd y.0.1)))
shows_begun nodes ids o at us b q s x [] child node code v t g i h (inr r) f =
    shows_entered nodes ids o at 0 b.child us b x child node code v (omega arith) h f (inr (passed_by b q [] child node code r))
shows_begun nodes ids o at us b q s x (c ∷ w) child node code v t g i h (inl r) f =
    absurd (pick r.repetition (λ y. y) (λ y. fresh_short b q c w child g y r.left))
shows_begun nodes ids o at us b q s x (c ∷ w) child node code v t g i h (inr r) f =
    absurd (fresh_past nodes ids o 0 us b.child [] b q s c w child node code v t (omega arith) g i h r)
