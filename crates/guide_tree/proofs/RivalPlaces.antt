-- Paired slots are those of two places that may follow one place.
use Rattle.std.proofs.Common.{◌≡◌, ◌≢◌, ℕ, zero, suc, ◌+◌, ◌<◌, ◌≤◌, inl, inr, Bool, true, false, [], ◌∷◌, Option}
use Rattle.std.proofs.Common.{Some, refl, ap, ◌∙◌, arith}
use Rattle.std.specs.List.{AllByRecursion}
use Rattle.guide_tree.specs.declared.slot.Slot.{Slot}
use Rattle.guide_tree.specs.Tree.{Tree, Trees, segment, loop, no_trees, tree}
use Rattle.guide_tree.specs.Places.{Pair, Place, use_of, IsFirst, MayRepeat, Follows, slot_in, slot_nth}
use Rattle.guide_tree.specs.Rivals.{entry}
use Rattle.guide_tree.proofs.RivalPairs.{Enters, InsideIn, Inside, PairedIn, Paired}

-- where a node's first slot is
pub record EntryPlace (t : Tree) (s : Slot) : Type 0 where
  pub place : Place
  pub first : AllByRecursion IsFirst place
  pub slot : slot_in t place ≡ Some s

pub entry_place : (t : Tree) (s : Slot) → entry t ≡ Some s → EntryPlace t s
entry_place (segment x) s e = record { place = []; first = tt; slot = e }
entry_place (loop l no_trees) s e = cc
entry_place (loop l (tree (segment x) ts)) s e =
    record { place = use_of 0 0 ∷ []; first = ((refl, refl), tt); slot = e }
entry_place (loop l (tree (loop k us) ts)) s e = cc

-- the nodes of a list are a parent's children from number k on
abbrev pub Stand : (ℕ → Place → Option Slot) → ℕ → Trees → Type 0
Stand f k us = (i n : ℕ) (q : Place) → i ≡ k + n → f i q ≡ slot_nth us n q

pub stand_next : (f : ℕ → Place → Option Slot) (k : ℕ) (t : Tree) (ts : Trees) → Stand f k (tree t ts)
    → Stand f (k + 1) ts
stand_next f k t ts h i n q e = h i (suc n) q (omega arith)

stand_behind : (t : Tree) (ts : Trees) → Stand (slot_nth (tree t ts)) 1 ts
stand_behind t ts i n q e = let f : i ≡ suc n = omega arith in ap (λ (j : ℕ). slot_nth (tree t ts) j q) f

pub stand_all : (ts : Trees) → Stand (slot_nth ts) 0 ts
stand_all ts i n q e = let f : i ≡ n = omega arith in ap (λ (j : ℕ). slot_nth ts j q) f

enter_next : (il : Bool) (k : ℕ) → MayRepeat il k → MayRepeat il (k + 1)
enter_next true k h = omega arith
enter_next false k h = tt

here : (f : ℕ → Place → Option Slot) (k : ℕ) (t : Tree) (ts : Trees) (q : Place) (s : Slot) → Stand f k (tree t ts)
    → slot_in t q ≡ Some s → f k q ≡ Some s
here f k t ts q s h e = h k zero q (omega arith) ∙ e

-- a place that may follow another leads to the slot
pub record Repeats (il : Bool) (f : ℕ → Place → Option Slot) (s : Slot) : Type 0 where
  pub last : Pair
  pub last_in : Place
  pub next : Pair
  pub next_in : Place
  pub base : Slot
  pub stands : f last.child last_in ≡ Some base
  pub follows : Follows il (last ∷ last_in) (next ∷ next_in)
  pub slot : f next.child next_in ≡ Some s

pub record RepeatsIn (t : Tree) (s : Slot) : Type 0 where
  pub last : Place
  pub next : Place
  pub base : Slot
  pub stands : slot_in t last ≡ Some base
  pub follows : Follows true last next
  pub slot : slot_in t next ≡ Some s

mutual
  inside_in_follows : (t : Tree) (s : Slot) → InsideIn t s → RepeatsIn t s
  inside_in_follows (segment x) s h = absurd h
  inside_in_follows (loop l no_trees) s h = absurd h
  inside_in_follows (loop l (tree t ts)) s h =
      let r = inside_follows true (slot_nth (tree t ts)) 1 ts s (stand_behind t ts) (omega arith) h in
      record {
        last = r.last ∷ r.last_in;
        next = r.next ∷ r.next_in;
        base = r.base;
        stands = r.stands;
        follows =
            r.follows;
        slot = r.slot;
      }

  inside_follows : (il : Bool) (f : ℕ → Place → Option Slot) (k : ℕ) (us : Trees) (s : Slot) → Stand f k us
      → MayRepeat il k → Inside us s → Repeats il f s
  inside_follows il f k no_trees s st m h = absurd h
  inside_follows il f k (tree t ts) s st m (inl e) =
      let p = entry_place t s e in
      let at = here f k t ts p.place s st p.slot in
      record {
        last = use_of k 0;
        last_in = p.place;
        next = use_of k 1;
        next_in = p.place;
        base = s;
        stands =
            at;
        follows = inr (inr (refl, refl, m), p.first);
        slot = at;
      }
  inside_follows il f k (tree t ts) s st m (inr (inl i)) =
      let r = inside_in_follows t s i in
      record {
        last = use_of k 0;
        last_in = r.last;
        next = use_of k 0;
        next_in = r.next;
        base = r.base;
        stands =
            here f k t ts r.last r.base st r.stands;
        follows = inl (refl, r.follows);
        slot =
            here f k t ts r.next s st r.slot;
      }
  inside_follows il f k (tree t ts) s st m (inr (inr j)) =
      inside_follows il f (k + 1) ts s (stand_next f k t ts st) (enter_next il k m) j

-- a node from number k on that begins with the slot
pub record EntersAt (f : ℕ → Place → Option Slot) (k : ℕ) (s : Slot) : Type 0 where
  pub child : ℕ
  pub place : Place
  pub from : k ≤ child
  pub first : AllByRecursion IsFirst place
  pub slot : f child place ≡ Some s

enters_at : (f : ℕ → Place → Option Slot) (k : ℕ) (us : Trees) (s : Slot) → Stand f k us → Enters us s
    → EntersAt f k s
enters_at f k no_trees s st h = absurd h
enters_at f k (tree t ts) s st (inl e) =
    let p = entry_place t s e in
    record { child = k; place = p.place; from = omega arith; first = p.first; slot = here f k t ts p.place s st p.slot }
enters_at f k (tree t ts) s st (inr h) =
    let r = enters_at f (k + 1) ts s (stand_next f k t ts st) h in
    record { child = r.child; place = r.place; from = (let l = r.from in omega arith); first = r.first; slot = r.slot }

-- two different places that may follow one lead to the slots
pub record MayBoth (il : Bool) (f : ℕ → Place → Option Slot) (s u : Slot) : Type 0 where
  pub last : Pair
  pub last_in : Place
  pub one : Pair
  pub one_in : Place
  pub other : Pair
  pub other_in : Place
  pub base : Slot
  pub stands : f last.child last_in ≡ Some base
  pub one_follows : Follows il (last ∷ last_in) (one ∷ one_in)
  pub other_follows : Follows il (last ∷ last_in) (other ∷ other_in)
  pub one_slot : f one.child one_in ≡ Some s
  pub other_slot : f other.child other_in ≡ Some u
  pub different : (one ∷ one_in) ≢ (other ∷ other_in)

pub record MayBothIn (t : Tree) (s u : Slot) : Type 0 where
  pub last : Place
  pub one : Place
  pub other : Place
  pub base : Slot
  pub stands : slot_in t last ≡ Some base
  pub one_follows : Follows true last one
  pub other_follows : Follows true last other
  pub one_slot : slot_in t one ≡ Some s
  pub other_slot : slot_in t other ≡ Some u
  pub different : one ≢ other

heads : (a b : Pair) (p q : Place) → (a ∷ p) ≡ (b ∷ q) → a ≡ b
heads a b p q e = cc

pub tails : (a b : Pair) (p q : Place) → (a ∷ p) ≡ (b ∷ q) → p ≡ q
tails a b p q e = cc

child_differs : (a b : Pair) (p q : Place) → a.child < b.child → (a ∷ p) ≢ (b ∷ q)
child_differs a b p q h e = let c = ap (λ (x : Pair). x.child) (heads a b p q e) in omega arith

use_differs : (a b : Pair) (p q : Place) → a.use_no < b.use_no → (a ∷ p) ≢ (b ∷ q)
use_differs a b p q h e = let c = ap (λ (x : Pair). x.use_no) (heads a b p q e) in omega arith

mutual
  paired_in_both : (t : Tree) (s u : Slot) → PairedIn t s u → MayBothIn t s u
  paired_in_both (segment x) s u h = absurd h
  paired_in_both (loop l no_trees) s u h = absurd h
  paired_in_both (loop l (tree t ts)) s u h =
      let r = paired_both true (slot_nth (tree t ts)) 1 ts s u (stand_behind t ts) (omega arith) h in
      record {
        last = r.last ∷ r.last_in;
        one = r.one ∷ r.one_in;
        other = r.other ∷ r.other_in;
        base =
            r.base;
        stands = r.stands;
        one_follows = r.one_follows;
        other_follows = r.other_follows;
        one_slot =
            r.one_slot;
        other_slot = r.other_slot;
        different = r.different;
      }

  pub paired_both : (il : Bool) (f : ℕ → Place → Option Slot) (k : ℕ) (us : Trees) (s u : Slot) → Stand f k us
      → MayRepeat il k → Paired us s u → MayBoth il f s u
  paired_both il f k no_trees s u st m h = absurd h
  paired_both il f k (tree t ts) s u st m (inl (e, n)) =
      let p = entry_place t s e in
      let at = here f k t ts p.place s st p.slot in
      let q = enters_at f (k + 1) ts u (stand_next f k t ts st) n in
      let lt : k < q.child = (let l = q.from in omega arith) in
      record {
        last = use_of k 0;
        last_in = p.place;
        one = use_of k 1;
        one_in = p.place;
        other = use_of q.child 0;
        other_in = q.place;
        base = s;
        stands = at;
        one_follows = inr (inr (refl, refl, m), p.first);
        other_follows = inr (inl (lt, refl), q.first);
        one_slot = at;
        other_slot = q.slot;
        different = child_differs (use_of k 1) (use_of q.child 0) p.place q.place lt;
      }
  paired_both il f k (tree t ts) s u st m (inr (inl (i, inl e))) =
      let r = inside_in_follows t s i in
      let p = entry_place t u e in
      let lt : 0 < 1 = omega arith in
      record {
        last = use_of k 0;
        last_in = r.last;
        one = use_of k 0;
        one_in = r.next;
        other = use_of k 1;
        other_in = p.place;
        base = r.base;
        stands = here f k t ts r.last r.base st r.stands;
        one_follows = inl (refl, r.follows);
        other_follows = inr (inr (refl, refl, m), p.first);
        one_slot = here f k t ts r.next s st r.slot;
        other_slot = here f k t ts p.place u st p.slot;
        different = use_differs (use_of k 0) (use_of k 1) r.next p.place lt;
      }
  paired_both il f k (tree t ts) s u st m (inr (inl (i, inr n))) =
      let r = inside_in_follows t s i in
      let q = enters_at f (k + 1) ts u (stand_next f k t ts st) n in
      let lt : k < q.child = (let l = q.from in omega arith) in
      record {
        last = use_of k 0;
        last_in = r.last;
        one = use_of k 0;
        one_in = r.next;
        other = use_of q.child 0;
        other_in = q.place;
        base = r.base;
        stands = here f k t ts r.last r.base st r.stands;
        one_follows = inl (refl, r.follows);
        other_follows = inr (inl (lt, refl), q.first);
        one_slot = here f k t ts r.next s st r.slot;
        other_slot = q.slot;
        different = child_differs (use_of k 0) (use_of q.child 0) r.next q.place lt;
      }
  paired_both il f k (tree t ts) s u st m (inr (inr (inl d))) =
      let r = paired_in_both t s u d in
      record {
        last = use_of k 0;
        last_in = r.last;
        one = use_of k 0;
        one_in = r.one;
        other = use_of k 0;
        other_in = r.other;
        base = r.base;
        stands = here f k t ts r.last r.base st r.stands;
        one_follows = inl (refl, r.one_follows);
        other_follows = inl (refl, r.other_follows);
        one_slot = here f k t ts r.one s st r.one_slot;
        other_slot = here f k t ts r.other u st r.other_slot;
        different = λ e. r.different (tails (use_of k 0) (use_of k 0) r.one r.other e);
      }
  paired_both il f k (tree t ts) s u st m (inr (inr (inr w))) =
      paired_both il f (k + 1) ts s u (stand_next f k t ts st) (enter_next il k m) w
