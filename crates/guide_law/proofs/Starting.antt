-- Where a node begins is the one place in it that is first all along.
use Rattle.std.proofs.Common.{◌≡◌, ℕ, zero, suc, ◌+◌, ◌≤◌, inl, inr, [], ◌∷◌, map, Option, Some, None}
use Rattle.std.proofs.Common.{refl, ap, sym, subst, ◌∙◌, arith}
use Rattle.std.specs.List.{AllByRecursion}
use Rattle.guide_tree.specs.declared.slot.Slot.{Slot}
use Rattle.guide_tree.specs.Words.{Tree, Trees, segment, loop, no_trees, tree, Pair, Place, use_of, IsFirst, slot_in, slot_nth, Candidate}
use Rattle.guide_tree.specs.Words.{into, start_of, starts}
use Rattle.guide_law.proofs.Residual.{Triggered, AllTriggered}
use Rattle.guide_law.proofs.Among.{in_left, in_right, in_cases, in_map, in_mapped}
use Rattle.guide_law.proofs.Cases.{pick}
use Rattle.guide_tree.proofs.ForAbove.{pair_is, In, Stand, stand_next}

-- the slot of a place, of which f gives those of the children
abbrev pub slot_by : (ℕ → Place → Option Slot) → Place → Option Slot
slot_by f [] = None
slot_by f (b ∷ w) = f b.child w

pub start_first : (t : Tree) (c : Candidate) → In (start_of t) c
    → AllByRecursion IsFirst c.place × (slot_in t c.place ≡ Some c.slot)
start_first (segment s) c (inl e) =
    subst (λ (x : Candidate). AllByRecursion IsFirst x.place × (slot_in (segment s) x.place ≡ Some x.slot)) e (tt, refl)
start_first (segment s) c (inr h) = absurd h
start_first (loop l no_trees) c h = absurd h
start_first (loop l (tree (loop k us) ts)) c h = absurd h
start_first (loop l (tree (segment s) ts)) c (inl e) =
    subst (λ (x : Candidate). AllByRecursion IsFirst x.place × (slot_in (loop l (tree (segment s) ts)) x.place ≡ Some x.slot)) e
    (((refl, refl), tt), refl)
start_first (loop l (tree (segment s) ts)) c (inr h) = absurd h

-- a candidate of a node, and of its parent
abbrev pub candidate : Place → Slot → Candidate
candidate q s = record { place = q; slot = s }

same_segment : (x s : Slot) (w : Place) → slot_in (segment x) w ≡ Some s → (w ≡ []) × (x ≡ s)
same_segment x s [] e = (refl, cc)
same_segment x s (a ∷ w) e = cc

pub first_segment : (x s : Slot) (ts : Trees) (n : ℕ) (w : Place) → n ≡ 0 → slot_nth (tree (segment x) ts) n w ≡ Some s
    → (w ≡ []) × (x ≡ s)
first_segment x s ts zero w z e = same_segment x s w e
first_segment x s ts (suc n) w z e = absurd (omega arith)

pub start_there : (t : Tree) (w : Place) (s : Slot) → Triggered t → AllByRecursion IsFirst w → slot_in t w ≡ Some s
    → In (start_of t) (candidate w s)
start_there (segment x) w s h f e =
    let r = same_segment x s w e in inl (ap (candidate []) r.1 ∙ ap (λ (q : Place). candidate q s) (sym r.0))
start_there (loop l ts) [] s h f e = cc
start_there (loop l no_trees) (a ∷ w) s h f e = cc
start_there (loop l (tree (loop k us) ts)) (a ∷ w) s h f e = absurd h.0
start_there (loop l (tree (segment x) ts)) (a ∷ w) s h f e =
    let r = first_segment x s ts a.child w f.0.0 e in
    inl (ap (candidate (use_of 0 0 ∷ [])) r.1 ∙ ap (λ (q : Place). candidate (use_of 0 0 ∷ q) s) (sym r.0)
    ∙ ap (λ (b : Pair). candidate (b ∷ w) s) (sym (pair_is a (use_of 0 0) f.0.0 f.0.1)))

pub starts_there : (k : ℕ) (ts : Trees) (m : ℕ) (b : Pair) (w : Place) (s : Slot) → AllTriggered ts → b.child ≡ k + m → b.use_no ≡ 0
    → AllByRecursion IsFirst w → slot_nth ts m w ≡ Some s → In (starts k ts) (candidate (b ∷ w) s)
starts_there k no_trees m b w s h c u f e = cc
starts_there k (tree t ts) zero b w s h c u f e =
    in_left (map (into (use_of k 0)) (start_of t)) (starts (k + 1) ts) (candidate (b ∷ w) s)
    (subst (λ (x : Pair). In (map (into (use_of k 0)) (start_of t)) (candidate (x ∷ w) s)) (sym (pair_is b (use_of k 0) (omega arith) u))
    (in_map (into (use_of k 0)) (start_of t) (candidate w s) (start_there t w s h.0 f e)))
starts_there k (tree t ts) (suc m) b w s h c u f e =
    in_right (map (into (use_of k 0)) (start_of t)) (starts (k + 1) ts) (candidate (b ∷ w) s)
    (starts_there (k + 1) ts m b w s h.1 (omega arith) u f e)

-- what the nodes from child k on begin with
pub record Begun (f : ℕ → Place → Option Slot) (k : ℕ) (c : Candidate) : Type 0 where
  pub child : ℕ
  pub rest : Place
  pub from : k ≤ child
  pub first : AllByRecursion IsFirst rest
  pub is : c.place ≡ use_of child 0 ∷ rest
  pub slot : f child rest ≡ Some c.slot

pub starts_begin : (f : ℕ → Place → Option Slot) (k : ℕ) (ts : Trees) (c : Candidate) → Stand f k ts → In (starts k ts) c
    → Begun f k c
starts_begin f k no_trees c st h = absurd h
starts_begin f k (tree t ts) c st h =
    pick (in_cases (map (into (use_of k 0)) (start_of t)) (starts (k + 1) ts) c h)
    (λ x. let r = in_mapped (into (use_of k 0)) (start_of t) c x in
    let d = start_first t r.value r.there in
    record {
      child = k;
      rest = r.value.place;
      from = omega arith;
      first = d.0;
      is = ap (λ (y : Candidate). y.place) (sym r.is);
      slot = st k 0 r.value.place (omega arith) ∙ d.1 ∙ ap (λ (y : Candidate). Some y.slot) r.is;
    })
    (λ y. let r = starts_begin f (k + 1) ts c (stand_next f k t ts st) y in
    record { child = r.child; rest = r.rest; from = (let l = r.from in omega arith); first = r.first; is = r.is; slot = r.slot })
