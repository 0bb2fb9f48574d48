-- A walk over a body adds exactly the element faults of its segments.
use Rattle.std.proofs.Common.{⊎_elim, ◌≡◌, ◌⊎◌, inl, inr, ℕ, zero, suc, ◌+◌, ◌<◌, List, [], ◌∷◌, map}
use Rattle.std.proofs.Common.{Option, Some, None}
use Rattle.std.proofs.Common.{refl, sym, ◌∙◌, ap, subst, arith}
use Rattle.std.specs.Prelude.{slice_index_or}
use Rattle.std.specs.List.{Contains, slice_get}
use Rattle.x12_segs.specs.Words.{SegValue}
use Rattle.hub_kinds.specs.declared.fault.Fault.{Fault}
use Rattle.guide_tree.specs.declared.slot.Slot.{Slot}
use Rattle.guide_tree.specs.Words.{Trees, Candidate, Place, slot_at, slot_given}
use Rattle.loop_match.specs.Given.{place_in, slot_in}
use Rattle.loop_match.specs.LoopIds.{loop_id_of}
use Rattle.set_walk.specs.Told.{IsTold, Adds}
use Rattle.set_check.specs.Adding.{IsErrorBelow}

-- the place and the slot of what is given, by index
pub place_there : (gs : List (Option Candidate)) (i : ℕ) (q : Place) → Some q ≡ place_in (slice_index_or gs i None)
    → slice_get (map place_in gs) i ≡ Some (Some q)
place_there [] i q e = let k : Some q ≡ None = e in cc
place_there (x ∷ gs) zero q e = ap Some (sym e)
place_there (x ∷ gs) (suc i) q e = place_there gs i q e

pub slot_there : (ts : Trees) (gs : List (Option Candidate)) (i : ℕ) (q : Place) (slot : Slot)
    → map slot_in gs ≡ map (slot_given ts) (map place_in gs) → Some q ≡ place_in (slice_index_or gs i None)
    → Some slot ≡ slot_in (slice_index_or gs i None) → slot_at ts q ≡ Some slot
slot_there ts [] i q slot h e s = let k : Some q ≡ None = e in cc
slot_there ts (x ∷ gs) zero q slot h e s =
    let first : slot_in x ≡ slot_given ts (place_in x) = cc in
    ap (slot_given ts) e ∙ sym first ∙ sym s
slot_there ts (x ∷ gs) (suc i) q slot h e s =
    let tail : map slot_in gs ≡ map (slot_given ts) (map place_in gs) = cc in slot_there ts gs i q slot tail e s

pub no_place : (gs : List (Option Candidate)) (i : ℕ) (q : Place) → None ≡ place_in (slice_index_or gs i None)
    → slice_get (map place_in gs) i ≡ Some (Some q) → ⊥
no_place [] i q e h = let k : None ≡ Some (Some q) = h in cc
no_place (x ∷ gs) zero q e h = let k : Some (place_in x) ≡ Some (Some q) = h in let m : Some None ≡ Some (Some q) = ap Some e ∙ k in cc
no_place (x ∷ gs) (suc i) q e h = no_place gs i q e h

no_slot_no_place : (x : Option Candidate) → None ≡ slot_in x → None ≡ place_in x
no_slot_no_place None e = refl
no_slot_no_place (Some c) e = let k : None ≡ Some c.slot = e in cc

pub no_slot : (gs : List (Option Candidate)) (i : ℕ) (q : Place) → None ≡ slot_in (slice_index_or gs i None)
    → slice_get (map place_in gs) i ≡ Some (Some q) → ⊥
no_slot gs i q e h = no_place gs i q (no_slot_no_place (slice_index_or gs i None) e) h

raised : (ts : Trees) (segs : List SegValue) (given : List (Option Place)) (i : ℕ) (f : Fault) → IsErrorBelow ts segs given i f
    → IsErrorBelow ts segs given (i + 1) f
raised ts segs given i f r =
    let l : r.index < i = r.before in
    record {
      index = r.index;
      before = omega arith;
      seg = r.seg;
      place = r.place;
      slot = r.slot;
      there = r.there;
      placed = r.placed;
      leads = r.leads;
      told = r.told;
    }

lowered : (ts : Trees) (segs : List SegValue) (given : List (Option Place)) (i : ℕ) (f : Fault) (r : IsErrorBelow ts segs given (i + 1) f)
    → (r.index < i) → IsErrorBelow ts segs given i f
lowered ts segs given i f r l = record {
  index = r.index;
  before = l;
  seg = r.seg;
  place = r.place;
  slot = r.slot;
  there = r.there;
  placed = r.placed;
  leads = r.leads;
  told = r.told;
}

here_or_before : (i n : ℕ) → n < i + 1 → (n < i) ⊎ (n ≡ i)
here_or_before zero zero h = inr refl
here_or_before zero (suc n) h = absurd (omega arith)
here_or_before (suc i) zero h = inl (omega arith)
here_or_before (suc i) (suc n) h =
    ⊎_elim (λ a. inl (let l : n < i = a in omega arith)) (λ b. inr (ap suc b)) (here_or_before i n (omega arith))

-- one segment more, with a place
pub adds_placed : (ts : Trees) (segs : List SegValue) (given : List (Option Place)) (old now new : List Fault) (i : ℕ) (seg : SegValue)
    (place : Place) (slot : Slot) → Adds old now (IsErrorBelow ts segs given i) → slice_get segs i ≡ Some seg
    → slice_get given i ≡ Some (Some place) → slot_at ts place ≡ Some slot
    → Adds now new (IsTold (i + 2) seg (loop_id_of ts place) slot) → Adds old new (IsErrorBelow ts segs given (i + 1))
adds_placed ts segs given old now new i seg place slot before there placed leads adds f = (
  (λ h. ⊎_elim (λ a. ⊎_elim (λ x. inl x) (λ y. inr (raised ts segs given i f y)) ((before f).0 a))
      (λ t. inr (record {
        index = i;
        before = omega arith;
        seg = seg;
        place = place;
        slot = slot;
        there = there;
        placed = placed;
        leads = leads;
        told = t;
      })) ((adds f).0 h)),
  (λ h. (adds f).1 (⊎_elim (λ a. inl ((before f).1 (inl a))) (λ r. last r (here_or_before i r.index r.before)) h)),
) where
  last : (r : IsErrorBelow ts segs given (i + 1) f) → (r.index < i) ⊎ (r.index ≡ i)
      → Contains now f ⊎ IsTold (i + 2) seg (loop_id_of ts place) slot f
  last r (inl l) = inl ((before f).1 (inr (lowered ts segs given i f r l)))
  last r (inr e) =
      let x : r.seg ≡ seg = (let z : Some r.seg ≡ Some seg = sym r.there ∙ ap (slice_get segs) e ∙ there in cc) in
      let y : r.place ≡ place = (let z : Some (Some r.place) ≡ Some (Some place) = sym r.placed ∙ ap (slice_get given) e ∙ placed in cc) in
      let w : r.slot ≡ slot = (let z : Some r.slot ≡ Some slot = sym r.leads ∙ ap (slot_at ts) y ∙ leads in cc) in
      inr (subst (λ (n : ℕ). IsTold (n + 2) seg (loop_id_of ts place) slot f) e
      (subst (λ (s : SegValue). IsTold (r.index + 2) s (loop_id_of ts place) slot f) x
      (subst (λ (q : Place). IsTold (r.index + 2) r.seg (loop_id_of ts q) slot f) y
      (subst (λ (s : Slot). IsTold (r.index + 2) r.seg (loop_id_of ts r.place) s f) w r.told))))

-- one segment more, without a place
pub adds_stray : (ts : Trees) (segs : List SegValue) (given : List (Option Place)) (old now : List Fault) (i : ℕ)
    → Adds old now (IsErrorBelow ts segs given i) → ((q : Place) → slice_get given i ≡ Some (Some q) → ⊥)
    → Adds old now (IsErrorBelow ts segs given (i + 1))
adds_stray ts segs given old now i before none f = (
  (λ h. ⊎_elim (λ x. inl x) (λ y. inr (raised ts segs given i f y)) ((before f).0 h)),
  (λ h. ⊎_elim (λ a. (before f).1 (inl a)) (λ r. last r (here_or_before i r.index r.before)) h),
) where
  last : (r : IsErrorBelow ts segs given (i + 1) f) → (r.index < i) ⊎ (r.index ≡ i) → Contains now f
  last r (inl l) = (before f).1 (inr (lowered ts segs given i f r l))
  last r (inr e) = absurd (none r.place (ap (slice_get given) (sym e) ∙ r.placed))

pub adds_nothing : (ts : Trees) (segs : List SegValue) (given : List (Option Place)) (old : List Fault)
    → Adds old old (IsErrorBelow ts segs given 0)
adds_nothing ts segs given old f = ((λ h. inl h), (λ h. ⊎_elim (λ a. a) (λ r. let l : r.index < 0 = r.before in absurd (omega arith)) h))
