-- The computed places are those that may come and lead to a slot.
use Rattle.std.proofs.Common.{◌≡◌, ℕ, zero, suc, ◌+◌, ◌<◌, ◌≤◌, inl, inr, Bool, true, false, [], ◌∷◌, ◌++◌, map}
use Rattle.std.proofs.Common.{Option, Some, None, refl, ap, sym, subst, ◌∙◌, arith, if◌then◌else◌}
use Rattle.guide_tree.specs.declared.slot.Slot.{Slot}
use Rattle.guide_tree.specs.declared.node.Loop.{Loop}
use Rattle.guide_tree.specs.Words.{Tree, Trees, segment, loop, no_trees, tree, Pair, Place, use_of, IsNext, MayRepeat, Follows, MayCome}
use Rattle.guide_tree.specs.Words.{slot_in, slot_nth, slot_at, Candidate, into, start_of, starts, may_repeat, again, nexts_in, nexts_from}
use Rattle.guide_tree.specs.Words.{nexts}
use Rattle.std.proofs.lemmas.Bool.Decides.{nat_tests}
use Rattle.guide_law.proofs.Residual.{Triggered, AllTriggered}
use Rattle.guide_law.proofs.Among.{in_left, in_right, in_cases, in_map, in_mapped}
use Rattle.guide_law.proofs.Starting.{slot_by, start_first, candidate, start_there}
use Rattle.guide_law.proofs.Starting.{Begun, starts_there, starts_begin}
use Rattle.guide_law.proofs.Cases.{pick}
use Rattle.guide_tree.proofs.ForAbove.{pair_is, In, Stand, stand_all, stand_next}

-- a candidate may follow, and leads to its slot
pub record Comes (il : Bool) (f : ℕ → Place → Option Slot) (a : Pair) (p : Place) (c : Candidate) : Type 0 where
  pub follows : Follows il (a ∷ p) c.place
  pub slot : slot_by f c.place ≡ Some c.slot

repeats : (il : Bool) (a : Pair) → may_repeat il a.child ≡ true → MayRepeat il a.child
repeats false a m = tt
repeats true a m = grind (arith, nat_tests)

again_by : (f : ℕ → Place → Option Slot) (il b : Bool) (a : Pair) (t : Tree) (p : Place) (c : Candidate)
    → may_repeat il a.child ≡ b → ((q : Place) → f a.child q ≡ slot_in t q)
    → In (if b then map (into (use_of a.child (a.use_no + 1))) (start_of t) else []) c → Comes il f a p c
again_by f il false a t p c m st h = absurd h
again_by f il true a t p c m st h =
    let r = in_mapped (into (use_of a.child (a.use_no + 1))) (start_of t) c h in
    let d = start_first t r.value r.there in
    subst (Comes il f a p) r.is (record {
      follows = inr (inr (refl, refl, repeats il a m), d.0);
      slot = st r.value.place ∙ d.1;
    })

same_slot : (l : Loop) (ts : Trees) (q : Place) (s : Slot) → slot_by (slot_nth ts) q ≡ Some s → slot_in (loop l ts) q ≡ Some s
same_slot l ts [] s e = e
same_slot l ts (b ∷ w) s e = e

come_in : (l : Loop) (ts : Trees) (a : Pair) (p : Place) (c : Candidate) → Comes true (slot_nth ts) a p c
    → Follows true (a ∷ p) c.place × (slot_in (loop l ts) c.place ≡ Some c.slot)
come_in l ts a p c h = (h.follows, same_slot l ts c.place c.slot h.slot)

later : (il : Bool) (f : ℕ → Place → Option Slot) (a : Pair) (p : Place) (c : Candidate) → Begun f (a.child + 1) c
    → Comes il f a p c
later il f a p c r = record {
  follows = subst (λ (q : Place). Follows il (a ∷ p) q) (sym r.is)
      (inr (inl ((let l = r.from in omega arith), refl), r.first));
  slot = ap (slot_by f) r.is ∙ r.slot;
}

mutual
  pub nexts_in_come : (t : Tree) (p : Place) (c : Candidate) → In (nexts_in t p) c
      → Follows true p c.place × (slot_in t c.place ≡ Some c.slot)
  nexts_in_come (segment s) p c h = absurd h
  nexts_in_come (loop l ts) [] c h = absurd h
  nexts_in_come (loop l ts) (a ∷ p) c h =
      come_in l ts a p c (nexts_from_come true (slot_nth ts) 0 ts a.child a p c (stand_all ts) (omega arith) h)

  pub nexts_from_come : (il : Bool) (f : ℕ → Place → Option Slot) (k : ℕ) (ts : Trees) (n : ℕ) (a : Pair) (p : Place)
      (c : Candidate) → Stand f k ts → a.child ≡ k + n → In (nexts_from il ts n a p) c → Comes il f a p c
  nexts_from_come il f k no_trees n a p c st e h = absurd h
  nexts_from_come il f k (tree t ts) (suc n) a p c st e h =
      nexts_from_come il f (k + 1) ts n a p c (stand_next f k t ts st) (omega arith) h
  nexts_from_come il f k (tree t ts) zero a p c st e h =
      pick (in_cases (map (into a) (nexts_in t p)) (again il a t ++ starts (a.child + 1) ts) c h)
      (λ x. let r = in_mapped (into a) (nexts_in t p) c x in
      let d = nexts_in_come t p r.value r.there in
      subst (Comes il f a p) r.is
      (record { follows = inl (refl, d.0); slot = st a.child 0 r.value.place (omega arith) ∙ d.1 }))
      (λ y. pick (in_cases (again il a t) (starts (a.child + 1) ts) c y)
      (λ x. again_by f il (may_repeat il a.child) a t p c refl (λ q. st a.child 0 q (omega arith)) x)
      (λ x. later il f a p c (starts_begin f (a.child + 1) ts c
      (λ i n q z. st i (suc n) q (omega arith)) x)))

starts_come : (ts : Trees) (c : Candidate) → Begun (slot_nth ts) 0 c → MayCome None c.place × (slot_at ts c.place ≡ Some c.slot)
starts_come ts c r = (
  subst (λ (q : Place). MayCome None q) (sym r.is) (refl, r.first),
  ap (slot_at ts) r.is ∙ r.slot,
)

at_slot : (ts : Trees) (q : Place) (s : Slot) → slot_by (slot_nth ts) q ≡ Some s → slot_at ts q ≡ Some s
at_slot ts [] s e = e
at_slot ts (b ∷ w) s e = e

pub nexts_come : (ts : Trees) (last : Option Place) (c : Candidate) → In (nexts ts last) c
    → MayCome last c.place × (slot_at ts c.place ≡ Some c.slot)
nexts_come ts None c h = starts_come ts c (starts_begin (slot_nth ts) 0 ts c (stand_all ts) h)
nexts_come ts (Some []) c h = absurd h
nexts_come ts (Some (a ∷ p)) c h =
    let r = nexts_from_come false (slot_nth ts) 0 ts a.child a p c (stand_all ts) (omega arith) h in
    (r.follows, at_slot ts c.place c.slot r.slot)

-- the other way

next_child : (il : Bool) (a b : Pair) → IsNext il a b → a.child ≤ b.child
next_child il a b (inl h) = let l = h.0 in omega arith
next_child il a b (inr h) = let e = h.0 in omega arith

pub follow_child : (il : Bool) (a b : Pair) (p q : Place) → Follows il (a ∷ p) (b ∷ q) → a.child ≤ b.child
follow_child il a b p q (inl (e, f)) = let c = ap (λ (x : Pair). x.child) e in omega arith
follow_child il a b p q (inr (n, f)) = next_child il a b n

pub next_later : (il : Bool) (a b : Pair) → IsNext il a b → a.child < b.child → b.use_no ≡ 0
next_later il a b (inl h) l = h.1
next_later il a b (inr h) l = let e = h.0 in absurd (omega arith)

repeated : (il : Bool) (a : Pair) → MayRepeat il a.child → may_repeat il a.child ≡ true
repeated false a m = refl
repeated true a m = let k = a.child in grind (arith, nat_tests)

-- the next use of the same child, which may be repeated
pub next_same : (il : Bool) (a b : Pair) → IsNext il a b → b.child ≡ a.child
    → (may_repeat il a.child ≡ true) × (b ≡ use_of a.child (a.use_no + 1))
next_same il a b (inl h) e = let l = h.0 in absurd (omega arith)
next_same il a b (inr h) e = (repeated il a h.2, pair_is b (use_of a.child (a.use_no + 1)) h.0 h.1)

again_there : (il b : Bool) (a : Pair) (t : Tree) (c : Candidate) → b ≡ true
    → In (map (into (use_of a.child (a.use_no + 1))) (start_of t)) c
    → In (if b then map (into (use_of a.child (a.use_no + 1))) (start_of t) else []) c
again_there il true a t c e h = h
again_there il false a t c e h = cc

mutual
  pub follow_in_nexts : (t : Tree) (p w : Place) (s : Slot) → Triggered t → Follows true p w → slot_in t w ≡ Some s
      → In (nexts_in t p) (candidate w s)
  follow_in_nexts (segment x) [] w s h f e = absurd f
  follow_in_nexts (segment x) (a ∷ p) [] s h f e = absurd f
  follow_in_nexts (segment x) (a ∷ p) (b ∷ w) s h f e = cc
  follow_in_nexts (loop l ts) [] w s h f e = absurd f
  follow_in_nexts (loop l ts) (a ∷ p) [] s h f e = absurd f
  follow_in_nexts (loop l ts) (a ∷ p) (b ∷ w) s h f e =
      follow_nexts true 0 ts a.child b.child a p b w s h.1 (omega arith) (omega arith) f e

  pub follow_nexts : (il : Bool) (k : ℕ) (ts : Trees) (n m : ℕ) (a : Pair) (p : Place) (b : Pair) (w : Place) (s : Slot)
      → AllTriggered ts → a.child ≡ k + n → b.child ≡ k + m → Follows il (a ∷ p) (b ∷ w) → slot_nth ts m w ≡ Some s
      → In (nexts_from il ts n a p) (candidate (b ∷ w) s)
  follow_nexts il k no_trees n m a p b w s h c d f e = cc
  follow_nexts il k (tree t ts) (suc n) zero a p b w s h c d f e =
      let l = follow_child il a b p w f in absurd (omega arith)
  follow_nexts il k (tree t ts) (suc n) (suc m) a p b w s h c d f e =
      follow_nexts il (k + 1) ts n m a p b w s h.1 (omega arith) (omega arith) f e
  follow_nexts il k (tree t ts) zero zero a p b w s h c d (inl (x, f)) e =
      in_left (map (into a) (nexts_in t p)) (again il a t ++ starts (a.child + 1) ts) (candidate (b ∷ w) s)
      (subst (λ (y : Pair). In (map (into a) (nexts_in t p)) (candidate (y ∷ w) s)) x
      (in_map (into a) (nexts_in t p) (candidate w s) (follow_in_nexts t p w s h.0 f e)))
  follow_nexts il k (tree t ts) zero zero a p b w s h c d (inr (n, f)) e =
      let r = next_same il a b n (omega arith) in
      in_right (map (into a) (nexts_in t p)) (again il a t ++ starts (a.child + 1) ts) (candidate (b ∷ w) s)
      (in_left (again il a t) (starts (a.child + 1) ts) (candidate (b ∷ w) s)
      (again_there il (may_repeat il a.child) a t (candidate (b ∷ w) s) r.0
      (subst (λ (y : Pair). In (map (into (use_of a.child (a.use_no + 1))) (start_of t)) (candidate (y ∷ w) s)) (sym r.1)
      (in_map (into (use_of a.child (a.use_no + 1))) (start_of t) (candidate w s) (start_there t w s h.0 f e)))))
  follow_nexts il k (tree t ts) zero (suc m) a p b w s h c d (inl (x, f)) e =
      let y = ap (λ (z : Pair). z.child) x in absurd (omega arith)
  follow_nexts il k (tree t ts) zero (suc m) a p b w s h c d (inr (n, f)) e =
      in_right (map (into a) (nexts_in t p)) (again il a t ++ starts (a.child + 1) ts) (candidate (b ∷ w) s)
      (in_right (again il a t) (starts (a.child + 1) ts) (candidate (b ∷ w) s)
      (starts_there (a.child + 1) ts m b w s h.1 (omega arith) (next_later il a b n (omega arith)) f e))

come_there : (ts : Trees) (last : Option Place) (q : Place) (s : Slot) → AllTriggered ts → MayCome last q
    → slot_at ts q ≡ Some s → In (nexts ts last) (candidate q s)
come_there ts last [] s h m e = cc
come_there ts None (b ∷ w) s h m e = starts_there 0 ts b.child b w s h (omega arith) m.0 m.1 e
come_there ts (Some []) (b ∷ w) s h m e = absurd m
come_there ts (Some (a ∷ p)) (b ∷ w) s h m e =
    follow_nexts false 0 ts a.child b.child a p b w s h (omega arith) (omega arith) m e

pub come_in_nexts : (ts : Trees) (last : Option Place) (c : Candidate) → AllTriggered ts → MayCome last c.place
    → slot_at ts c.place ≡ Some c.slot → In (nexts ts last) c
come_in_nexts ts last c h m e = come_there ts last c.place c.slot h m e
