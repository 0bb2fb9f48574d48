-- The element faults that a walk reports are those of the segments that have places, by the slots to which these lead.
use Rattle.std.proofs.Common.{⊎_elim, ◌≡◌, ◌↔◌, ◌⊎◌, inl, inr, ℕ, zero, suc, ◌+◌, List, [], ◌∷◌, map, Option, Some, None, refl, sym, ap}
use Rattle.std.proofs.Common.{subst, ◌∙◌, arith}
use Rattle.std.specs.List.{Contains, slice_get}
use Rattle.hub_kinds.specs.declared.fault.Fault.{Fault}
use Rattle.x12_segs.specs.Words.{SegValue, elements_of}
use Rattle.guide_tree.specs.declared.slot.Slot.{Slot}
use Rattle.guide_tree.specs.Words.{Trees, Segment, Place, Candidate, slot_at, nexts, first_fit, placing_from}
use Rattle.guide_law.proofs.ForAbove.{Found, first_found, nexts_come}
use Rattle.loop_match.specs.Given.{place_in}
use Rattle.loop_match.specs.LoopIds.{loop_id_of}
use Rattle.set_walk.specs.Told.{IsTold, Adds}
use Rattle.set_walk.specs.WalkedBody.{IsElementFaultIn}
use Rattle.set_walk.specs.Walked.{next_for, last_place_after, IsErrorAt, IsErrorFrom}

-- a candidate that is found has the slot to which its place leads
pub leads_to : (ts : Trees) (last : Option Place) (s : Segment) (c : Candidate) → first_fit s (nexts ts last) ≡ Some c
    → slot_at ts c.place ≡ Some c.slot
leads_to ts last s c e =
    let f : Found s (nexts ts last) (Some c) = subst (Found s (nexts ts last)) e (first_found s (nexts ts last)) in
    (nexts_come ts last c f.0).1

abbrev places_from : Trees → Option Place → List SegValue → List (Option Place)
places_from ts last body = placing_from ts last (map elements_of body)

here : (ts : Trees) (at : ℕ) (last : Option Place) (s : SegValue) (body : List SegValue) (f : Fault) (o : Option Candidate)
    → next_for ts last s ≡ o → IsErrorAt ts at s o f → IsElementFaultIn ts at (s ∷ body) (places_from ts last (s ∷ body)) f
here ts at last s body f None e h = absurd h
here ts at last s body f (Some c) e h =
    let k : at ≡ 0 + at = omega arith in
    record {
      index = 0;
      seg = s;
      place = c.place;
      slot = c.slot;
      there = refl;
      placed = ap (λ (o : Option Candidate). Some (place_in o)) e;
      leads = leads_to ts last (elements_of s) c e;
      told = subst (λ (n : ℕ). IsTold n s (loop_id_of ts c.place) c.slot f) k h;
    }

later : (ts : Trees) (at : ℕ) (last next : Option Place) (s : SegValue) (body : List SegValue) (f : Fault)
    → next ≡ last_place_after (next_for ts last s) last → IsElementFaultIn ts (at + 1) body (places_from ts next body) f
    → IsElementFaultIn ts at (s ∷ body) (places_from ts last (s ∷ body)) f
later ts at last next s body f e r =
    let k : r.index + (at + 1) ≡ suc r.index + at = omega arith in
    record {
      index = suc r.index;
      seg = r.seg;
      place = r.place;
      slot = r.slot;
      there = r.there;
      placed = subst (λ (l : Option Place). slice_get (places_from ts l body) r.index ≡ Some (Some r.place)) e r.placed;
      leads = r.leads;
      told = subst (λ (n : ℕ). IsTold n r.seg (loop_id_of ts r.place) r.slot f) k r.told;
    }

pub error_in : (ts : Trees) (at : ℕ) (last : Option Place) (body : List SegValue) (f : Fault) → IsErrorFrom ts at last body f
    → IsElementFaultIn ts at body (places_from ts last body) f
error_in ts at last [] f h = absurd h
error_in ts at last (s ∷ body) f (inl h) = here ts at last s body f (next_for ts last s) refl h
error_in ts at last (s ∷ body) f (inr h) =
    later ts at last (last_place_after (next_for ts last s) last) s body f refl
    (error_in ts (at + 1) (last_place_after (next_for ts last s) last) body f h)

at_first : (ts : Trees) (at : ℕ) (last : Option Place) (s seg : SegValue) (place : Place) (slot : Slot) (f : Fault) (o : Option Candidate)
    → next_for ts last s ≡ o → s ≡ seg → place_in o ≡ Some place → slot_at ts place ≡ Some slot
    → IsTold at seg (loop_id_of ts place) slot f → IsErrorAt ts at s o f
at_first ts at last s seg place slot f None e there placed leads told = let k : None ≡ Some place = placed in cc
at_first ts at last s seg place slot f (Some c) e there placed leads told =
    let same : c.place ≡ place = (let k : Some c.place ≡ Some place = placed in cc) in
    let is : Some c.slot ≡ Some slot = sym (leads_to ts last (elements_of s) c e) ∙ ap (slot_at ts) same ∙ leads in
    let slot_is : c.slot ≡ slot = cc in
    subst (λ (x : SegValue). IsTold at x (loop_id_of ts c.place) c.slot f) (sym there)
    (subst (λ (q : Place). IsTold at seg (loop_id_of ts q) c.slot f) (sym same)
    (subst (λ (x : Slot). IsTold at seg (loop_id_of ts place) x f) (sym slot_is) told))

error_at : (ts : Trees) (at : ℕ) (last : Option Place) (body : List SegValue) (f : Fault) (i : ℕ) (seg : SegValue) (place : Place)
    (slot : Slot) → slice_get body i ≡ Some seg → slice_get (places_from ts last body) i ≡ Some (Some place)
    → slot_at ts place ≡ Some slot → IsTold (i + at) seg (loop_id_of ts place) slot f → IsErrorFrom ts at last body f
error_at ts at last [] f i seg place slot there placed leads told = let k : None ≡ Some seg = there in cc
error_at ts at last (s ∷ body) f zero seg place slot there placed leads told =
    let first : Some (place_in (next_for ts last s)) ≡ Some (Some place) = placed in
    let own : place_in (next_for ts last s) ≡ Some place = cc in
    let same : s ≡ seg = cc in
    let k : 0 + at ≡ at = omega arith in
    inl (at_first ts at last s seg place slot f (next_for ts last s) refl same own leads
    (subst (λ (n : ℕ). IsTold n seg (loop_id_of ts place) slot f) k told))
error_at ts at last (s ∷ body) f (suc i) seg place slot there placed leads told =
    let k : suc i + at ≡ i + (at + 1) = omega arith in
    inr (error_at ts (at + 1) (last_place_after (next_for ts last s) last) body f i seg place slot there placed leads
    (subst (λ (n : ℕ). IsTold n seg (loop_id_of ts place) slot f) k told))

pub error_from : (ts : Trees) (at : ℕ) (last : Option Place) (body : List SegValue) (f : Fault)
    → IsElementFaultIn ts at body (places_from ts last body) f → IsErrorFrom ts at last body f
error_from ts at last body f r = error_at ts at last body f r.index r.seg r.place r.slot r.there r.placed r.leads r.told

-- the first segment's and the others'
next_error : (ts : Trees) (at : ℕ) (last : Option Place) (s : SegValue) (rest : List SegValue) (f : Fault) (o : Option Candidate)
    → next_for ts last s ≡ o
    → IsErrorFrom ts at last (s ∷ rest) f ↔ (IsErrorAt ts at s o f ⊎ IsErrorFrom ts (at + 1) (last_place_after o last) rest f)
next_error ts at last s rest f o e =
    subst (λ (x : Option Candidate). IsErrorFrom ts at last (s ∷ rest) f
    ↔ (IsErrorAt ts at s x f ⊎ IsErrorFrom ts (at + 1) (last_place_after x last) rest f)) e (λ h. h, λ h. h)

-- what was found with one segment more that has a place
pub errors_placed : (ts : Trees) (at : ℕ) (last next : Option Place) (s : SegValue) (c : Candidate) (old new : List Fault)
    → next_for ts last s ≡ Some c → next ≡ Some c.place → Adds old new (IsTold at s (loop_id_of ts c.place) c.slot)
    → (rest : List SegValue) (f : Fault)
    → (Contains new f ⊎ IsErrorFrom ts (at + 1) next rest f) ↔ (Contains old f ⊎ IsErrorFrom ts at last (s ∷ rest) f)
errors_placed ts at last next s c old new e goes adds rest f = (
  (λ h. ⊎_elim
      (λ a. ⊎_elim (λ x. inl x) (λ y. inr (more.1 (inl y))) ((adds f).0 a))
      (λ b. inr (more.1 (inr (subst (λ (l : Option Place). IsErrorFrom ts (at + 1) l rest f) goes b)))) h),
  (λ h. ⊎_elim
      (λ a. inl ((adds f).1 (inl a)))
      (λ b. ⊎_elim (λ x. inl ((adds f).1 (inr x)))
      (λ y. inr (subst (λ (l : Option Place). IsErrorFrom ts (at + 1) l rest f) (sym goes) y)) (more.0 b)) h),
)
  where
    more : IsErrorFrom ts at last (s ∷ rest) f
        ↔ (IsTold at s (loop_id_of ts c.place) c.slot f ⊎ IsErrorFrom ts (at + 1) (Some c.place) rest f)
    more = next_error ts at last s rest f (Some c) e

-- and with a stray
pub errors_stray : (ts : Trees) (at : ℕ) (last : Option Place) (s : SegValue) (found : List Fault) → next_for ts last s ≡ None
    → (rest : List SegValue) (f : Fault)
    → (Contains found f ⊎ IsErrorFrom ts (at + 1) last rest f) ↔ (Contains found f ⊎ IsErrorFrom ts at last (s ∷ rest) f)
errors_stray ts at last s found e rest f = (
  (λ h. ⊎_elim (λ a. inl a) (λ b. inr (more.1 (inr b))) h),
  (λ h. ⊎_elim (λ a. inl a) (λ b. ⊎_elim (λ x. absurd x) (λ y. inr y) (more.0 b)) h),
)
  where
    more : IsErrorFrom ts at last (s ∷ rest) f ↔ (⊥ ⊎ IsErrorFrom ts (at + 1) last rest f)
    more = next_error ts at last s rest f None e
