-- What the pass meets where nodes end is what shows there.
use Rattle.std.proofs.Common.{◌≡◌, ℕ, zero, suc, ◌+◌, ◌-◌, ◌<◌, ◌≤◌, ◌⊎◌, inl, inr, Bool, true, false, if◌then◌else◌, List, [], ◌∷◌}
use Rattle.std.proofs.Common.{◌++◌, Option, Some, None, nat_le, nat_lt, refl, sym, ◌∙◌, ap, subst, arith}
use Rattle.std.proofs.lemmas.Bool.{leb-true, le-leb, ltb-true, lt-ltb, cases_order}
use Rattle.hub_kinds.specs.declared.fault.Fault.{Fault}
use Rattle.hub_kinds.specs.declared.codes.SegmentCode.{SegmentCode}
use Rattle.hub_kinds.specs.declared.codes.SegmentCode.TheVariants as ik304
use Rattle.guide_tree.specs.declared.slot.Slot.{Slot}
use Rattle.guide_tree.specs.Words.{Tree, Trees, segment, loop, no_trees, tree, min_of, max_of, Pair, Place, use_of, slot_in, slot_nth}
use Rattle.guide_tree.specs.Words.{IsBehind, past_code, few_code, fault_of, missing, too_few, past, unused, entered, ended_in, ended}
use Rattle.guide_tree.proofs.ForAbove.{In, pair_is}
use Rattle.guide_law.proofs.Cases.{pick}
use Rattle.guide_law.proofs.Among.{in_left, in_right, in_cases}
use Rattle.guide_law.proofs.Gaps.{use_in}
use Rattle.guide_law.proofs.Showing.{ShortBy, Shows, Level, LevelIn, level_next, level_child, level_loop, nodes_in, ids_in}
use Rattle.guide_law.proofs.Showing.{NextBehind, NoUse, node_self, node_same, inner_end, shorts_up, short_down}

-- what a test lets through
pub in_if : (b : Bool) (y x : Fault) → In (if b then y ∷ [] else []) x → (b ≡ true) × (x ≡ y)
in_if true y x (inl e) = (refl, sym e)
in_if true y x (inr h) = absurd h
in_if false y x h = absurd h

pub if_in : (b : Bool) (y x : Fault) → b ≡ true → x ≡ y → In (if b then y ∷ [] else []) x
if_in true y x t e = inl (sym e)
if_in false y x t e = cc

-- a child of the nodes from number low on, and of which Upto holds, is needed and has no use
pub record Lacks (nodes : Place → Option Tree) (o : List ℕ) (at low : ℕ) (Upto : ℕ → Type 0) (x : Fault) : Type 0 where
  pub child : ℕ
  pub node : Tree
  pub from : low ≤ child
  pub upto : Upto child
  pub there : nodes (use_of child 0 ∷ []) ≡ Some node
  pub needed : 1 ≤ min_of node
  pub is : x ≡ fault_of at o ik304.RequiredSegmentMissing node

lacks_here : (nodes : Place → Option Tree) (ids : Place → List ℕ) (o : List ℕ) (at k : ℕ) (Upto : ℕ → Type 0) (t : Tree)
    (us : Trees) (x : Fault) → Level nodes ids o k (tree t us) → Upto k → In (missing at o t) x → Lacks nodes o at k Upto x
lacks_here nodes ids o at k Upto t us x v u h =
    let m = in_if (nat_le 1 (min_of t)) (fault_of at o ik304.RequiredSegmentMissing t) x h in
    record {
      child = k;
      node = t;
      from = omega arith;
      upto = u;
      there = v.stands (use_of k 0) 0 [] (omega arith) ∙ node_self t;
      needed = leb-true 1 (min_of t) m.0;
      is = m.1;
    }

lacks_later : (nodes : Place → Option Tree) (o : List ℕ) (at k : ℕ) (Upto : ℕ → Type 0) (x : Fault)
    → Lacks nodes o at (k + 1) Upto x → Lacks nodes o at k Upto x
lacks_later nodes o at k Upto x r = record {
  child = r.child;
  node = r.node;
  from = (let l = r.from in omega arith);
  upto = r.upto;
  there = r.there;
  needed = r.needed;
  is = r.is;
}

abbrev pub Any : ℕ → Type 0
Any c = Unit {0}

pub unused_lacks : (nodes : Place → Option Tree) (ids : Place → List ℕ) (o : List ℕ) (at k : ℕ) (us : Trees) (x : Fault)
    → Level nodes ids o k us → In (unused at o us) x → Lacks nodes o at k Any x
unused_lacks nodes ids o at k no_trees x v h = absurd h
unused_lacks nodes ids o at k (tree t us) x v h =
    pick (in_cases (missing at o t) (unused at o us) x h)
    (λ y. lacks_here nodes ids o at k Any t us x v tt y)
    (λ y. lacks_later nodes o at k Any x (unused_lacks nodes ids o at (k + 1) us x (level_next nodes ids o k t us v) y))

in_missing : (at : ℕ) (o : List ℕ) (t node : Tree) (x : Fault) → t ≡ node → 1 ≤ min_of node
    → x ≡ fault_of at o ik304.RequiredSegmentMissing node → In (missing at o t) x
in_missing at o t node x e l f =
    subst (λ (n : Tree). In (missing at o n) x) (sym e)
    (if_in (nat_le 1 (min_of node)) (fault_of at o ik304.RequiredSegmentMissing node) x (le-leb 1 (min_of node) l) f)

-- the node of a child is what stands there
pub child_is : (nodes : Place → Option Tree) (ids : Place → List ℕ) (o : List ℕ) (k c u : ℕ) (t node : Tree) (us : Trees)
    → Level nodes ids o k (tree t us) → c ≡ k → nodes (use_of c u ∷ []) ≡ Some node → t ≡ node
child_is nodes ids o k c u t node us v e h = node_same t node (sym (v.stands (use_of c u) 0 [] (omega arith)) ∙ h)

pub lacks_unused : (nodes : Place → Option Tree) (ids : Place → List ℕ) (o : List ℕ) (at k : ℕ) (us : Trees) (x : Fault)
    (c : ℕ) (node : Tree) → Level nodes ids o k us → k ≤ c → nodes (use_of c 0 ∷ []) ≡ Some node → 1 ≤ min_of node
    → x ≡ fault_of at o ik304.RequiredSegmentMissing node → In (unused at o us) x
lacks_unused nodes ids o at k no_trees x c node v l h n f =
    let e : None ≡ Some node = sym (v.stands (use_of c 0) (c - k) [] (omega arith)) ∙ h in cc
lacks_unused nodes ids o at k (tree t us) x c node v l h n f =
    pick (cases_order c k)
    (λ e. in_left (missing at o t) (unused at o us) x
    (in_missing at o t node x (child_is nodes ids o k c 0 t node us v e h) n f))
    (λ d. pick d (λ m. absurd (omega arith))
    (λ m. in_right (missing at o t) (unused at o us) x
    (lacks_unused nodes ids o at (k + 1) us x c node (level_next nodes ids o k t us v) (omega arith) h n f)))

-- the child that is come to is past its greatest use
pub record Passed (nodes : Place → Option Tree) (o : List ℕ) (at c u : ℕ) (x : Fault) : Type 0 where
  pub node : Tree
  pub there : nodes (use_of c 0 ∷ []) ≡ Some node
  pub past : max_of node ≤ u
  pub is : x ≡ fault_of at o (past_code node) node

pub passed : (nodes : Place → Option Tree) (ids : Place → List ℕ) (o : List ℕ) (at k c u : ℕ) (t : Tree) (us : Trees) (x : Fault)
    → Level nodes ids o k (tree t us) → c ≡ k → In (past at o u t) x → Passed nodes o at c u x
passed nodes ids o at k c u t us x v e h =
    let m = in_if (nat_le (max_of t) u) (fault_of at o (past_code t) t) x h in
    record { node = t; there = v.stands (use_of c 0) 0 [] (omega arith) ∙ node_self t; past = leb-true (max_of t) u m.0; is = m.1 }

pub in_past : (at : ℕ) (o : List ℕ) (u : ℕ) (t node : Tree) (x : Fault) → t ≡ node → max_of node ≤ u
    → x ≡ fault_of at o (past_code node) node → In (past at o u t) x
in_past at o u t node x e l f =
    subst (λ (n : Tree). In (past at o u n) x) (sym e)
    (if_in (nat_le (max_of node) u) (fault_of at o (past_code node) node) x (le-leb (max_of node) u l) f)

pub entered_lacks : (nodes : Place → Option Tree) (ids : Place → List ℕ) (o : List ℕ) (at k m c u : ℕ) (us : Trees) (x : Fault)
    → Level nodes ids o k us → c ≡ k + m → In (entered at o us m u) x
    → Lacks nodes o at k (λ d. d < c) x ⊎ Passed nodes o at c u x
entered_lacks nodes ids o at k m c u no_trees x v e h = absurd h
entered_lacks nodes ids o at k zero c u (tree t us) x v e h = inr (passed nodes ids o at k c u t us x v (omega arith) h)
entered_lacks nodes ids o at k (suc m) c u (tree t us) x v e h =
    pick (in_cases (missing at o t) (entered at o us m u) x h)
    (λ y. inl (lacks_here nodes ids o at k (λ d. d < c) t us x v (omega arith) y))
    (λ y. pick (entered_lacks nodes ids o at (k + 1) m c u us x (level_next nodes ids o k t us v) (omega arith) y)
    (λ r. inl (lacks_later nodes o at k (λ d. d < c) x r)) (λ r. inr r))

pub lacks_entered : (nodes : Place → Option Tree) (ids : Place → List ℕ) (o : List ℕ) (at k m c u : ℕ) (us : Trees) (x : Fault)
    (d : ℕ) (node : Tree) → Level nodes ids o k us → c ≡ k + m → k ≤ d → d < c → nodes (use_of d 0 ∷ []) ≡ Some node
    → 1 ≤ min_of node → x ≡ fault_of at o ik304.RequiredSegmentMissing node → In (entered at o us m u) x
lacks_entered nodes ids o at k m c u no_trees x d node v e l b h n f =
    let z : None ≡ Some node = sym (v.stands (use_of d 0) (d - k) [] (omega arith)) ∙ h in cc
lacks_entered nodes ids o at k zero c u (tree t us) x d node v e l b h n f = absurd (omega arith)
lacks_entered nodes ids o at k (suc m) c u (tree t us) x d node v e l b h n f =
    pick (cases_order d k)
    (λ z. in_left (missing at o t) (entered at o us m u) x
    (in_missing at o t node x (child_is nodes ids o k d 0 t node us v z h) n f))
    (λ y. pick y (λ z. absurd (omega arith))
    (λ z. in_right (missing at o t) (entered at o us m u) x
    (lacks_entered nodes ids o at (k + 1) m c u us x d node (level_next nodes ids o k t us v) (omega arith) (omega arith) b h n f)))

pub passed_entered : (nodes : Place → Option Tree) (ids : Place → List ℕ) (o : List ℕ) (at k m c u : ℕ) (us : Trees) (x : Fault)
    (node : Tree) → Level nodes ids o k us → c ≡ k + m → nodes (use_of c 0 ∷ []) ≡ Some node → max_of node ≤ u
    → x ≡ fault_of at o (past_code node) node → In (entered at o us m u) x
passed_entered nodes ids o at k m c u no_trees x node v e h l f =
    let z : None ≡ Some node = sym (v.stands (use_of c 0) m [] e) ∙ h in cc
passed_entered nodes ids o at k zero c u (tree t us) x node v e h l f =
    in_past at o u t node x (child_is nodes ids o k c 0 t node us v (omega arith) h) l f
passed_entered nodes ids o at k (suc m) c u (tree t us) x node v e h l f =
    in_right (missing at o t) (entered at o us m u) x
    (passed_entered nodes ids o at (k + 1) m c u us x node (level_next nodes ids o k t us v) (omega arith) h l f)

-- a use of another child is another pair
pub use_differs : (a : Pair) (j w : ℕ) → a.child < j → use_of j w ≡ a → ⊥
use_differs a j w l e = let c = ap (λ (x : Pair). x.child) e in omega arith

-- the last one's child has too few uses
pub few_shows : (nodes : Place → Option Tree) (ids : Place → List ℕ) (o : List ℕ) (at k : ℕ) (a : Pair) (p : Place)
    (next : Option Place) (t : Tree) (us : Trees) (x : Fault) → Level nodes ids o k (tree t us) → a.child ≡ k
    → NextBehind next [] a.child → In (too_few at o (a.use_no + 1) t) x → Shows nodes ids at (ShortBy (a ∷ p) next) x
few_shows nodes ids o at k a p next t us x v e n h =
    let m = in_if (nat_lt (a.use_no + 1) (min_of t)) (fault_of at o (few_code t) t) x h in
    let l = ltb-true (a.use_no + 1) (min_of t) m.0 in
    record {
      parent = [];
      child = a.child;
      node = t;
      code = few_code t;
      there = v.stands (use_of a.child 0) 0 [] (omega arith) ∙ node_self t;
      holds = record {
        repetition = inl tt;
        needed = omega arith;
        before = λ b. omega arith;
        left = n;
        cases = inr ((a.use_no, (pair_is (use_of a.child a.use_no) a refl refl, tt), l), refl);
      };
      is = m.1 ∙ ap (λ (o : List ℕ). fault_of at o (few_code t) t) (sym v.outer);
    }

-- a child after the last one's is missing
pub lacks_shows : (nodes : Place → Option Tree) (ids : Place → List ℕ) (o : List ℕ) (at low : ℕ) (Upto : ℕ → Type 0)
    (last : Place) (next : Option Place) (x : Fault) → ids [] ≡ o → ((c : ℕ) → low ≤ c → IsBehind [] c last → ⊥)
    → ((c : ℕ) → low ≤ c → NoUse [] c last) → ((c : ℕ) → Upto c → NextBehind next [] c) → Lacks nodes o at low Upto x
    → Shows nodes ids at (ShortBy last next) x
lacks_shows nodes ids o at low Upto last next x e behind none left r = record {
  parent = [];
  child = r.child;
  node = r.node;
  code = ik304.RequiredSegmentMissing;
  there = r.there;
  holds = record {
    repetition = inl tt;
    needed = r.needed;
    before = behind r.child r.from;
    left = left r.child r.upto;
    cases = inl (none r.child r.from, refl);
  };
  is = r.is ∙ ap (λ (o : List ℕ). fault_of at o ik304.RequiredSegmentMissing r.node) (sym e);
}

-- a child of the nodes themselves that is left with too few uses is the last one's, or one after it that is missing
pub left_at : (a : Pair) (p : Place) (next : Option Place) (child : ℕ) (node : Tree) (code : SegmentCode)
    → ShortBy (a ∷ p) next [] child node code
    → ((child ≡ a.child) × (a.use_no + 1 < min_of node) × (code ≡ few_code node))
    ⊎ ((a.child < child) × (code ≡ ik304.RequiredSegmentMissing))
left_at a p next child node code s =
    pick (cases_order child a.child)
    (λ e. pick s.cases
    (λ y. absurd (y.0 a.use_no (pair_is (use_of child a.use_no) a e refl, tt)))
    (λ y. let u = ap (λ (x : Pair). x.use_no) y.0.1.0 in let l : y.0.0 + 1 < min_of node = y.0.2 in inl (e, (omega arith), y.1)))
    (λ d. pick d (λ l. absurd (s.before l))
    (λ l. pick s.cases (λ y. inr (l, y.1)) (λ y. absurd (use_differs a child y.0.0 l y.0.1.0))))

in_few : (at : ℕ) (o : List ℕ) (u : ℕ) (t node : Tree) (x : Fault) → t ≡ node → u + 1 < min_of node
    → x ≡ fault_of at o (few_code node) node → In (too_few at o (u + 1) t) x
in_few at o u t node x e l f =
    subst (λ (n : Tree). In (too_few at o (u + 1) n) x) (sym e)
    (if_in (nat_lt (u + 1) (min_of node)) (fault_of at o (few_code node) node) x (lt-ltb (u + 1) (min_of node) l) f)

-- the id of the loop round the nodes, and the code that was found
pub renamed : (at : ℕ) (o o' : List ℕ) (code code' : SegmentCode) (node : Tree) (x : Fault) → x ≡ fault_of at o code node → o ≡ o'
    → code ≡ code' → x ≡ fault_of at o' code' node
renamed at o o' code code' node x f e g =
    f ∙ ap (λ (i : List ℕ). fault_of at i code node) e ∙ ap (λ (c : SegmentCode). fault_of at o' c node) g

pub shows_few : (nodes : Place → Option Tree) (ids : Place → List ℕ) (o : List ℕ) (at k : ℕ) (a : Pair) (t : Tree) (us : Trees)
    (x : Fault) (child : ℕ) (node : Tree) (code : SegmentCode) → Level nodes ids o k (tree t us) → a.child ≡ k
    → nodes (use_of child 0 ∷ []) ≡ Some node → child ≡ a.child → a.use_no + 1 < min_of node → code ≡ few_code node
    → x ≡ fault_of at (ids []) code node → In (too_few at o (a.use_no + 1) t) x
shows_few nodes ids o at k a t us x child node code v e h c l g f =
    in_few at o a.use_no t node x (child_is nodes ids o k child 0 t node us v (c ∙ e) h) l
    (renamed at (ids []) o code (few_code node) node x f v.outer g)

mutual
  pub ended_in_shows : (t : Tree) (p : Place) (nodes : Place → Option Tree) (ids : Place → List ℕ) (at : ℕ) (x : Fault)
      → LevelIn nodes ids t → In (ended_in at t p) x → Shows nodes ids at (ShortBy p None) x
  ended_in_shows (segment y) p nodes ids at x v h = absurd h
  ended_in_shows (loop l ts) [] nodes ids at x v h = absurd h
  ended_in_shows (loop l ts) (a ∷ p) nodes ids at x v h =
      ended_shows ts 0 a.child a p nodes ids l.id at x (level_loop nodes ids l ts v) (omega arith) h

  pub ended_shows : (us : Trees) (k n : ℕ) (a : Pair) (p : Place) (nodes : Place → Option Tree) (ids : Place → List ℕ)
      (o : List ℕ) (at : ℕ) (x : Fault) → Level nodes ids o k us → a.child ≡ k + n → In (ended at o us n a.use_no p) x
      → Shows nodes ids at (ShortBy (a ∷ p) None) x
  ended_shows no_trees k n a p nodes ids o at x v e h = absurd h
  ended_shows (tree t us) k (suc n) a p nodes ids o at x v e h =
      ended_shows us (k + 1) n a p nodes ids o at x (level_next nodes ids o k t us v) (omega arith) h
  ended_shows (tree t us) k zero a p nodes ids o at x v e h =
      pick (in_cases (ended_in at t p) (too_few at o (a.use_no + 1) t ++ unused at o us) x h)
      (λ y. shorts_up a p None None nodes ids at x (inner_end a)
      (ended_in_shows t p (nodes_in nodes a) (ids_in ids a) at x (level_child nodes ids o k a t us v (omega arith)) y))
      (λ y. pick (in_cases (too_few at o (a.use_no + 1) t) (unused at o us) x y)
      (λ z. few_shows nodes ids o at k a p None t us x v (omega arith) tt z)
      (λ z. lacks_shows nodes ids o at (k + 1) Any (a ∷ p) None x v.outer (λ c l b. omega arith)
      (λ c l w b. use_differs a c w (omega arith) b.0) (λ c z. tt)
      (unused_lacks nodes ids o at (k + 1) us x (level_next nodes ids o k t us v) z)))

mutual
  pub shows_ended_in : (t : Tree) (p : Place) (s : Slot) (nodes : Place → Option Tree) (ids : Place → List ℕ) (at : ℕ) (x : Fault)
      (w : Place) (child : ℕ) (node : Tree) (code : SegmentCode) → LevelIn nodes ids t → slot_in t p ≡ Some s
      → nodes (use_in w child 0) ≡ Some node → ShortBy p None w child node code → x ≡ fault_of at (ids w) code node
      → In (ended_in at t p) x
  shows_ended_in (segment y) p s nodes ids at x [] child node code v q h r f =
      let z : None ≡ Some node = sym (v.stands (use_of child 0 ∷ [])) ∙ h in cc
  shows_ended_in (segment y) p s nodes ids at x (b ∷ w) child node code v q h r f =
      let z : None ≡ Some node = sym (v.stands (b ∷ use_in w child 0)) ∙ h in cc
  shows_ended_in (loop l ts) [] s nodes ids at x w child node code v q h r f = cc
  shows_ended_in (loop l ts) (a ∷ p) s nodes ids at x w child node code v q h r f =
      shows_ended ts 0 a.child a p s nodes ids l.id at x w child node code (level_loop nodes ids l ts v) (omega arith) q h r f

  pub shows_ended : (us : Trees) (k n : ℕ) (a : Pair) (p : Place) (s : Slot) (nodes : Place → Option Tree)
      (ids : Place → List ℕ) (o : List ℕ) (at : ℕ) (x : Fault) (w : Place) (child : ℕ) (node : Tree) (code : SegmentCode)
      → Level nodes ids o k us → a.child ≡ k + n → slot_nth us n p ≡ Some s → nodes (use_in w child 0) ≡ Some node
      → ShortBy (a ∷ p) None w child node code → x ≡ fault_of at (ids w) code node → In (ended at o us n a.use_no p) x
  shows_ended no_trees k n a p s nodes ids o at x w child node code v e q h r f = cc
  shows_ended (tree t us) k (suc n) a p s nodes ids o at x w child node code v e q h r f =
      shows_ended us (k + 1) n a p s nodes ids o at x w child node code (level_next nodes ids o k t us v) (omega arith) q h r f
  shows_ended (tree t us) k zero a p s nodes ids o at x [] child node code v e q h r f =
      in_right (ended_in at t p) (too_few at o (a.use_no + 1) t ++ unused at o us) x
      (pick (left_at a p None child node code r)
      (λ y. in_left (too_few at o (a.use_no + 1) t) (unused at o us) x
      (shows_few nodes ids o at k a t us x child node code v (omega arith) h y.0 y.1 y.2 f))
      (λ y. in_right (too_few at o (a.use_no + 1) t) (unused at o us) x
      (lacks_unused nodes ids o at (k + 1) us x child node (level_next nodes ids o k t us v) (let l = y.0 in omega arith) h r.needed
      (renamed at (ids []) o code ik304.RequiredSegmentMissing node x f v.outer y.1))))
  shows_ended (tree t us) k zero a p s nodes ids o at x (b ∷ w) child node code v e q h r f =
      in_left (ended_in at t p) (too_few at o (a.use_no + 1) t ++ unused at o us) x
      (pick r.repetition
      (λ g. shows_ended_in t p s (nodes_in nodes a) (ids_in ids a) at x w child node code
      (level_child nodes ids o k a t us v (omega arith)) q
      (subst (λ (c : Pair). nodes (c ∷ use_in w child 0) ≡ Some node) g.0 h)
      (short_down a p None None w child node code (inner_end a)
      (subst (λ (c : Pair). ShortBy (a ∷ p) None (c ∷ w) child node code) g.0 r))
      (subst (λ (c : Pair). x ≡ fault_of at (ids (c ∷ w)) code node) g.0 f))
      (λ g. absurd g))
