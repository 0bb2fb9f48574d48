-- What shows at a step of a placing, or at its end, is what the pass meets there.
use Rattle.std.proofs.Common.{◌≡◌, ◌↔◌, ℕ, zero, suc, ◌+◌, ◌==◌, ◌<◌, inl, inr, Bool, true, false}
use Rattle.std.proofs.Common.{List, [], ◌∷◌, ◌++◌, Option, Some, None, refl, sym, ◌∙◌, ap, subst, arith}
use Rattle.std.specs.List.{AllByRecursion}
use Rattle.std.proofs.lemmas.Bool.{cond-true, cond-false, eq-eqb, ne_eqb}
use Rattle.hub_kinds.specs.declared.fault.Fault.{Fault}
use Rattle.hub_kinds.specs.declared.codes.SegmentCode.{SegmentCode}
use Rattle.hub_kinds.specs.declared.codes.SegmentCode.TheVariants as ik304
use Rattle.guide_tree.specs.declared.slot.Slot.{Slot}
use Rattle.guide_tree.specs.Words.{Tree, Trees, segment, loop, no_trees, tree, Pair, Place, IsFirst, Follows, MayCome, slot_in, slot_nth}
use Rattle.guide_tree.specs.Words.{IsPlaceOrBeginning, node_nth, node_at, loop_id_at, IsBefore, past_code, fault_of, past, too_few}
use Rattle.guide_tree.specs.Words.{unused, entered, ended_in, stepped_in, stepped, step_faults, end_faults}
use Rattle.guide_tree.proofs.ForAbove.{In}
use Rattle.guide_law.proofs.Cases.{pick}
use Rattle.guide_law.proofs.Among.{in_left, in_right}
use Rattle.guide_law.proofs.Residual.{AllTriggered, Triggered}
use Rattle.guide_law.proofs.Coming.{follow_child, next_same}
use Rattle.guide_law.proofs.Gaps.{use_in}
use Rattle.guide_law.proofs.Rising.{next_before, last_place}
use Rattle.guide_law.proofs.Showing.{ShortBy, StepBy, Shows, Named, Level, LevelIn, level_next, level_child, level_loop}
use Rattle.guide_law.proofs.Showing.{nodes_in, ids_in, inner_same, inner_before, short_down, past_down}
use Rattle.guide_law.proofs.Leaving.{Any, child_is, in_past, unused_lacks, lacks_unused, lacks_shows, left_at, renamed}
use Rattle.guide_law.proofs.Leaving.{shows_few, ended_shows, shows_ended_in, shows_ended}
use Rattle.guide_law.proofs.Going.{fresh_past, fresh_short, passed_by, shows_entered, shows_begun, entered_shows, stepped_shows}

-- a step by the pair that both places begin with
step_down : (a : Pair) (p q w : Place) (child : ℕ) (node : Tree) (code : SegmentCode)
    → StepBy (a ∷ p) (a ∷ q) (a ∷ w) child node code → StepBy p q w child node code
step_down a p q w child node code (inl r) = inl (short_down a p (Some (a ∷ q)) (Some q) w child node code (inner_same a q) r)
step_down a p q w child node code (inr r) = inr (past_down a p q w child node code r)

-- where both places begin with one pair, so does a parent of which something shows
same_start : (a : Pair) (p q : Place) (c : Pair) (w : Place) (child : ℕ) (node : Tree) (code : SegmentCode)
    → StepBy (a ∷ p) (a ∷ q) (c ∷ w) child node code → c ≡ a
same_start a p q c w child node code (inl r) = pick r.repetition (λ g. g.0) (λ g. g.0)
same_start a p q c w child node code (inr r) = r.begun.0

none_there : (a b : Pair) (p q : Place) (child : ℕ) (node : Tree) (code : SegmentCode) → a ≡ b
    → StepBy (a ∷ p) (b ∷ q) [] child node code → ⊥
none_there a b p q child node code e (inl r) =
    let c = ap (λ (i : Pair). i.child) e in let l : child < b.child = r.left in r.before (omega arith)
none_there a b p q child node code e (inr r) = r.new (r.begun.0 ∙ sym e, tt)

-- what shows in the part that is left
left_part : (a b : Pair) (p q : Place) (t : Tree) (us : Trees) (k : ℕ) (s : Slot) (nodes : Place → Option Tree)
    (ids : Place → List ℕ) (o : List ℕ) (at : ℕ) (x : Fault) (c : Pair) (w : Place) (child : ℕ) (node : Tree) (code : SegmentCode)
    → Level nodes ids o k (tree t us) → a.child ≡ k → slot_in t p ≡ Some s → IsBefore a b → c ≡ a
    → nodes (c ∷ use_in w child 0) ≡ Some node → ShortBy (a ∷ p) (Some (b ∷ q)) (c ∷ w) child node code
    → x ≡ fault_of at (ids (c ∷ w)) code node → In (ended_in at t p) x
left_part a b p q t us k s nodes ids o at x c w child node code v e i l g h r f =
    shows_ended_in t p s (nodes_in nodes a) (ids_in ids a) at x w child node code (level_child nodes ids o k a t us v e) i
    (subst (λ (y : Pair). nodes (y ∷ use_in w child 0) ≡ Some node) g h)
    (short_down a p (Some (b ∷ q)) None w child node code (inner_before a b q l)
    (subst (λ (y : Pair). ShortBy (a ∷ p) (Some (b ∷ q)) (y ∷ w) child node code) g r))
    (subst (λ (y : Pair). x ≡ fault_of at (ids (y ∷ w)) code node) g f)

-- the same child once more
shows_again : (a b : Pair) (p q : Place) (y : Tree) (us : Trees) (k : ℕ) (s i : Slot) (nodes : Place → Option Tree)
    (ids : Place → List ℕ) (o : List ℕ) (at : ℕ) (x : Fault) (w : Place) (child : ℕ) (node : Tree) (code : SegmentCode)
    → IsBefore a b → Level nodes ids o k (tree y us) → AllTriggered (tree y us) → a.child ≡ k → b.child ≡ k
    → AllByRecursion IsFirst q → slot_in y p ≡ Some s → slot_in y q ≡ Some i → nodes (use_in w child 0) ≡ Some node
    → StepBy (a ∷ p) (b ∷ q) w child node code → x ≡ fault_of at (ids w) code node
    → In (ended_in at y p ++ past at o b.use_no y) x
shows_again a b p q y us k s i nodes ids o at x [] child node code n v t c d f e g h (inl r) z =
    absurd (r.before (let l : child < b.child = r.left in omega arith))
shows_again a b p q y us k s i nodes ids o at x [] child node code n v t c d f e g h (inr r) z =
    let l = passed_by b q (a ∷ p) child node code r in
    in_right (ended_in at y p) (past at o b.use_no y) x
    (in_past at o b.use_no y node x (child_is nodes ids o k child 0 y node us v (l.0 ∙ d) h) l.1
    (renamed at (ids []) o code (past_code node) node x z v.outer l.2))
shows_again a b p q y us k s i nodes ids o at x (u ∷ w) child node code n v t c d f e g h (inl r) z =
    pick r.repetition
    (λ l. in_left (ended_in at y p) (past at o b.use_no y) x
    (left_part a b p q y us k s nodes ids o at x u w child node code v c e n l.0 h r z))
    (λ l. absurd (fresh_short b q u w child f l r.left))
shows_again a b p q y us k s i nodes ids o at x (u ∷ w) child node code n v t c d f e g h (inr r) z =
    absurd (fresh_past nodes ids o k (tree y us) 0 (a ∷ p) b q i u w child node code v t (omega arith) f g h r)

-- a later child
shows_later : (a b : Pair) (p q : Place) (y : Tree) (us : Trees) (k m : ℕ) (s i : Slot) (nodes : Place → Option Tree)
    (ids : Place → List ℕ) (o : List ℕ) (at : ℕ) (x : Fault) (w : Place) (child : ℕ) (node : Tree) (code : SegmentCode)
    → IsBefore a b → Level nodes ids o k (tree y us) → AllTriggered (tree y us) → a.child ≡ k → b.child ≡ (k + 1) + m
    → AllByRecursion IsFirst q → slot_in y p ≡ Some s → slot_nth us m q ≡ Some i → nodes (use_in w child 0) ≡ Some node
    → StepBy (a ∷ p) (b ∷ q) w child node code → x ≡ fault_of at (ids w) code node
    → In (ended_in at y p ++ (too_few at o (a.use_no + 1) y ++ entered at o us m b.use_no)) x
shows_later a b p q y us k m s i nodes ids o at x [] child node code n v t c d f e g h (inl r) z =
    in_right (ended_in at y p) (too_few at o (a.use_no + 1) y ++ entered at o us m b.use_no) x
    (pick (left_at a p (Some (b ∷ q)) child node code r)
    (λ l. in_left (too_few at o (a.use_no + 1) y) (entered at o us m b.use_no) x
    (shows_few nodes ids o at k a y us x child node code v c h l.0 l.1 l.2 z))
    (λ l. in_right (too_few at o (a.use_no + 1) y) (entered at o us m b.use_no) x
    (shows_entered nodes ids o at (k + 1) m us b x child node code (level_next nodes ids o k y us v) d h z
    (inl ((let j = l.0 in omega arith), r.left, r.needed, l.1)))))
shows_later a b p q y us k m s i nodes ids o at x [] child node code n v t c d f e g h (inr r) z =
    in_right (ended_in at y p) (too_few at o (a.use_no + 1) y ++ entered at o us m b.use_no) x
    (in_right (too_few at o (a.use_no + 1) y) (entered at o us m b.use_no) x
    (shows_entered nodes ids o at (k + 1) m us b x child node code (level_next nodes ids o k y us v) d h z
    (inr (passed_by b q (a ∷ p) child node code r))))
shows_later a b p q y us k m s i nodes ids o at x (u ∷ w) child node code n v t c d f e g h (inl r) z =
    pick r.repetition
    (λ l. in_left (ended_in at y p) (too_few at o (a.use_no + 1) y ++ entered at o us m b.use_no) x
    (left_part a b p q y us k s nodes ids o at x u w child node code v c e n l.0 h r z))
    (λ l. absurd (fresh_short b q u w child f l r.left))
shows_later a b p q y us k m s i nodes ids o at x (u ∷ w) child node code n v t c d f e g h (inr r) z =
    absurd (fresh_past nodes ids o (k + 1) us m (a ∷ p) b q i u w child node code (level_next nodes ids o k y us v) t.1 d f g h r)

mutual
  pub shows_stepped_in : (t : Tree) (p q : Place) (s i : Slot) (nodes : Place → Option Tree) (ids : Place → List ℕ) (at : ℕ)
      (x : Fault) (w : Place) (child : ℕ) (node : Tree) (code : SegmentCode) → LevelIn nodes ids t → Triggered t
      → Follows true p q → slot_in t p ≡ Some s → slot_in t q ≡ Some i → nodes (use_in w child 0) ≡ Some node
      → StepBy p q w child node code → x ≡ fault_of at (ids w) code node → In (stepped_in at t p q) x
  shows_stepped_in (segment y) [] q s i nodes ids at x w child node code v t f e g h r z = absurd f
  shows_stepped_in (segment y) (a ∷ p) q s i nodes ids at x w child node code v t f e g h r z = cc
  shows_stepped_in (loop l ts) [] q s i nodes ids at x w child node code v t f e g h r z = absurd f
  shows_stepped_in (loop l ts) (a ∷ p) [] s i nodes ids at x w child node code v t f e g h r z = absurd f
  shows_stepped_in (loop l ts) (a ∷ p) (b ∷ q) s i nodes ids at x w child node code v t f e g h r z =
      shows_stepped true ts 0 a.child b.child a b p q s i nodes ids l.id at x w child node code (level_loop nodes ids l ts v) t.1
      (omega arith) (omega arith) f e g h r z

  pub shows_stepped : (il : Bool) (us : Trees) (k n m : ℕ) (a b : Pair) (p q : Place) (s i : Slot) (nodes : Place → Option Tree)
      (ids : Place → List ℕ) (o : List ℕ) (at : ℕ) (x : Fault) (w : Place) (child : ℕ) (node : Tree) (code : SegmentCode)
      → Level nodes ids o k us → AllTriggered us → a.child ≡ k + n → b.child ≡ k + m → Follows il (a ∷ p) (b ∷ q)
      → slot_nth us n p ≡ Some s → slot_nth us m q ≡ Some i → nodes (use_in w child 0) ≡ Some node
      → StepBy (a ∷ p) (b ∷ q) w child node code → x ≡ fault_of at (ids w) code node
      → In (stepped at o us n m a.use_no b.use_no p q) x
  shows_stepped il no_trees k n m a b p q s i nodes ids o at x w child node code v t c d f e g h r z = cc
  shows_stepped il (tree y us) k (suc n) zero a b p q s i nodes ids o at x w child node code v t c d f e g h r z =
      let l = follow_child il a b p q f in absurd (omega arith)
  shows_stepped il (tree y us) k (suc n) (suc m) a b p q s i nodes ids o at x w child node code v t c d f e g h r z =
      shows_stepped il us (k + 1) n m a b p q s i nodes ids o at x w child node code (level_next nodes ids o k y us v) t.1
      (omega arith) (omega arith) f e g h r z
  shows_stepped il (tree y us) k zero zero a b p q s i nodes ids o at x [] child node code v t c d (inl (j, f)) e g h r z =
      absurd (none_there a b p q child node code j r)
  shows_stepped il (tree y us) k zero zero a b p q s i nodes ids o at x (u ∷ w) child node code v t c d (inl (j, f)) e g h r z =
      let same = cond-true (a.use_no == b.use_no) (stepped_in at y p q) (ended_in at y p ++ past at o b.use_no y)
      (eq-eqb a.use_no b.use_no (ap (λ (l : Pair). l.use_no) j)) in
      let r2 = subst (λ (l : Pair). StepBy (a ∷ p) (l ∷ q) (u ∷ w) child node code) (sym j) r in
      let ua = same_start a p q u w child node code r2 in
      subst (λ (l : List Fault). In l x) (sym same)
      (shows_stepped_in y p q s i (nodes_in nodes a) (ids_in ids a) at x w child node code
      (level_child nodes ids o k a y us v (omega arith)) t.0 f e g
      (subst (λ (l : Pair). nodes (l ∷ use_in w child 0) ≡ Some node) ua h)
      (step_down a p q w child node code (subst (λ (l : Pair). StepBy (a ∷ p) (a ∷ q) (l ∷ w) child node code) ua r2))
      (subst (λ (l : Pair). x ≡ fault_of at (ids (l ∷ w)) code node) ua z))
  shows_stepped il (tree y us) k zero zero a b p q s i nodes ids o at x w child node code v t c d (inr (n, f)) e g h r z =
      let j = ap (λ (l : Pair). l.use_no) (next_same il a b n (omega arith)).1 in
      let differs = cond-false (a.use_no == b.use_no) (stepped_in at y p q) (ended_in at y p ++ past at o b.use_no y)
      (ne_eqb a.use_no b.use_no (λ l. omega arith)) in
      subst (λ (l : List Fault). In l x) (sym differs)
      (shows_again a b p q y us k s i nodes ids o at x w child node code (next_before il a b n) v t (omega arith) (omega arith) f e
      g h r z)
  shows_stepped il (tree y us) k zero (suc m) a b p q s i nodes ids o at x w child node code v t c d (inl (j, f)) e g h r z =
      absurd (let l = ap (λ (l : Pair). l.child) j in omega arith)
  shows_stepped il (tree y us) k zero (suc m) a b p q s i nodes ids o at x w child node code v t c d (inr (n, f)) e g h r z =
      shows_later a b p q y us k m s i nodes ids o at x w child node code (next_before il a b n) v t (omega arith) (omega arith) f e
      g h r z

loop_named : (ts : Trees) → Named (node_at ts) (loop_id_at ts)
loop_named ts q l us e = rw e refl

-- the guide's own nodes
pub level_all : (ts : Trees) → Level (node_at ts) (loop_id_at ts) [] 0 ts
level_all ts = record {
  stands = λ a n q e. let f : a.child ≡ n = omega arith in ap (λ (m : ℕ). node_nth ts m q) f;
  named = loop_named ts;
  outer = refl;
}

-- a step of a placing
pub step_is : (ts : Trees) (last : Option Place) (q : Place) (at : ℕ) (x : Fault) → AllTriggered ts → MayCome last q
    → IsPlaceOrBeginning ts last → IsPlaceOrBeginning ts (Some q)
    → In (step_faults at ts last q) x ↔ Shows (node_at ts) (loop_id_at ts) at (StepBy (last_place last) q) x
step_is ts None [] at x t m l i = absurd m
step_is ts None (b ∷ q) at x t m l i = (
  (λ h. entered_shows (node_at ts) (loop_id_at ts) [] at 0 b.child ts [] b q x (level_all ts) (omega arith) (λ c z w. w)
      (λ c u z w. w) h),
  (λ r. shows_begun (node_at ts) (loop_id_at ts) [] at ts b q i.0 x r.parent r.child r.node r.code (level_all ts) t m.1 i.1 r.there
      r.holds r.is),
)
step_is ts (Some []) q at x t m l i = absurd m
step_is ts (Some (a ∷ p)) [] at x t m l i = absurd m
step_is ts (Some (a ∷ p)) (b ∷ q) at x t m l i = (
  (λ h. stepped_shows false ts 0 a.child b.child a b p q (node_at ts) (loop_id_at ts) [] at x (level_all ts) (omega arith)
      (omega arith) m h),
  (λ r. shows_stepped false ts 0 a.child b.child a b p q l.0 i.0 (node_at ts) (loop_id_at ts) [] at x r.parent r.child r.node r.code
      (level_all ts) t (omega arith) (omega arith) m l.1 i.1 r.there r.holds r.is),
)

none_begun : (ts : Trees) (end : ℕ) (x : Fault) (w : Place) (child : ℕ) (node : Tree) (code : SegmentCode)
    → node_at ts (use_in w child 0) ≡ Some node → ShortBy [] None w child node code → x ≡ fault_of end (loop_id_at ts w) code node
    → In (unused end [] ts) x
none_begun ts end x [] child node code h r f =
    lacks_unused (node_at ts) (loop_id_at ts) [] end 0 ts x child node (level_all ts) (omega arith) h r.needed
    (renamed end [] [] code ik304.RequiredSegmentMissing node x f refl (pick r.cases (λ y. y.1) (λ y. absurd y.0.1)))
none_begun ts end x (c ∷ w) child node code h r f = absurd (pick r.repetition (λ y. y) (λ y. y))

-- the end of a placing
pub end_is : (ts : Trees) (last : Option Place) (end : ℕ) (x : Fault) → IsPlaceOrBeginning ts last
    → In (end_faults end ts last) x ↔ Shows (node_at ts) (loop_id_at ts) end (ShortBy (last_place last) None) x
end_is ts None end x l = (
  (λ h. lacks_shows (node_at ts) (loop_id_at ts) [] end 0 Any [] None x refl (λ c z w. w) (λ c z u w. w) (λ c z. tt)
      (unused_lacks (node_at ts) (loop_id_at ts) [] end 0 ts x (level_all ts) h)),
  (λ r. none_begun ts end x r.parent r.child r.node r.code r.there r.holds r.is),
)
end_is ts (Some []) end x l = let z : None ≡ Some l.0 = l.1 in cc
end_is ts (Some (a ∷ p)) end x l = (
  (λ h. ended_shows ts 0 a.child a p (node_at ts) (loop_id_at ts) [] end x (level_all ts) (omega arith) h),
  (λ r. shows_ended ts 0 a.child a p l.0 (node_at ts) (loop_id_at ts) [] end x r.parent r.child r.node r.code (level_all ts)
      (omega arith) l.1 r.there r.holds r.is),
)
