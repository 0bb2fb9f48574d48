-- Two faults of a body that have one place in the order of faults are one.
use Rattle.std.proofs.Common.{◌≡◌, ◌↔◌, inl, inr, ℕ, ◌+◌, List, map, length, Option, Some, get_or, drop, refl, sym, ◌∙◌, ap, subst, arith}
use Rattle.std.specs.List.{Contains, slice_get}
use Rattle.hub_kinds.specs.declared.fault.Fault.{Fault}
use Rattle.hub_kinds.specs.declared.fault.ElemFault.{ElemFault}
use Rattle.hub_kinds.specs.Words.{key_of, elem_key, IsKeyedBy}
use Rattle.x12_segs.specs.Words.{SegValue, elements_of}
use Rattle.guide_tree.specs.declared.rows.GuideRows.{GuideRows}
use Rattle.guide_tree.specs.declared.slot.Slot.{Slot}
use Rattle.guide_tree.specs.Words.{Trees, GuideTree, Segment, Place, slot_at, IsSound, IsAccepted, IsStructureFault, guide_of}
use Rattle.guide_tree.specs.Words.{structure_faults}
use Rattle.guide_law.proofs.ForAbove.{members}
use Rattle.elem_rules.specs.ElementFaults.{IsElementFault}
use Rattle.loop_match.specs.LoopIds.{loop_id_of}
use Rattle.loop_match.proofs.ForAbove.{found_keyed}
use Rattle.set_walk.specs.Told.{fault_of_element}
use Rattle.set_walk.specs.WalkedBody.{IsBodyFault, IsElementFaultIn, places_by}
use Rattle.set_walk.proofs.Apart.{apart_at, same_apart, structure_is_not, one_elem}
use Rattle.set_walk.proofs.SoundPlaces.{sound_places}

one_told : (ts : Trees) (at : ℕ) (s t : SegValue) (q r : Place) (a b : Slot) (e c : ElemFault) → s ≡ t → q ≡ r → a ≡ b → e ≡ c
    → fault_of_element at (elements_of s) (loop_id_of ts q) a e ≡ fault_of_element at (elements_of t) (loop_id_of ts r) b c
one_told ts at s t q r a b e c x y w u =
    ap (λ (z : SegValue). fault_of_element at (elements_of z) (loop_id_of ts q) a e) x
    ∙ ap (λ (z : Place). fault_of_element at (elements_of t) (loop_id_of ts z) a e) y
    ∙ ap (λ (z : Slot). fault_of_element at (elements_of t) (loop_id_of ts r) z e) w
    ∙ ap (λ (z : ElemFault). fault_of_element at (elements_of t) (loop_id_of ts r) b z) u

errors_keyed : (ts : Trees) (first : ℕ) (body : List SegValue) (given : List (Option Place)) (f h : Fault)
    → ((q : Place) (slot : Slot) → slot_at ts q ≡ Some slot → IsSound slot) → IsElementFaultIn ts first body given f
    → IsElementFaultIn ts first body given h → key_of f ≡ key_of h → f ≡ h
errors_keyed ts first body given f h sound a b e =
    let k = ap key_of (sym a.told.is) ∙ e ∙ ap key_of b.told.is in
    let p : a.index + first ≡ b.index + first = ap (λ (l : List ℕ). get_or l 0 0) k in
    let i : a.index ≡ b.index = omega arith in
    let m : elem_key (Some a.told.elem) ≡ elem_key (Some b.told.elem) = ap (λ (l : List ℕ). drop 3 l) k in
    let x : a.seg ≡ b.seg = (let z : Some a.seg ≡ Some b.seg = sym a.there ∙ ap (slice_get body) i ∙ b.there in cc) in
    let y : a.place ≡ b.place =
    (let z : Some (Some a.place) ≡ Some (Some b.place) = sym a.placed ∙ ap (slice_get given) i ∙ b.placed in cc) in
    let w : a.slot ≡ b.slot = (let z : Some a.slot ≡ Some b.slot = sym a.leads ∙ ap (slot_at ts) y ∙ b.leads in cc) in
    let v : IsElementFault a.seg.delims (elements_of a.seg) a.slot b.told.elem =
    subst (λ (z : SegValue). IsElementFault z.delims (elements_of z) a.slot b.told.elem) (sym x)
    (subst (λ (z : Slot). IsElementFault b.seg.delims (elements_of b.seg) z b.told.elem) (sym w) b.told.wrong) in
    let u : a.told.elem ≡ b.told.elem =
    one_elem a.seg.delims (elements_of a.seg) a.slot a.told.elem b.told.elem (sound a.place a.slot a.leads) a.told.wrong v m in
    a.told.is
    ∙ one_told ts (a.index + first) a.seg b.seg a.place b.place a.slot b.slot a.told.elem b.told.elem x y w u
    ∙ ap (λ (n : ℕ). fault_of_element n (elements_of b.seg) (loop_id_of ts b.place) b.slot b.told.elem) p
    ∙ sym b.told.is

module _ (rows : GuideRows) (accepted : IsAccepted rows) (body : List SegValue) where
  abbrev g : GuideTree
  g = guide_of rows

  abbrev given : List (Option Place)
  given = places_by g body

  abbrev texts : List Segment
  texts = map elements_of body

  abbrev end : ℕ
  end = length body + 2

  structure_keyed : (v w : Fault) → IsStructureFault g texts given end v → IsStructureFault g texts given end w → key_of v ≡ key_of w
      → v ≡ w
  structure_keyed v w i j k =
      found_keyed rows texts end (structure_faults g end texts given) accepted refl v w ((members g accepted.well_formed texts end v).1 i)
      ((members g accepted.well_formed texts end w).1 j) k

  apart : (v w : Fault) → IsStructureFault g texts given end v → IsElementFaultIn g.nodes 2 body given w → key_of v ≡ key_of w → ⊥
  apart v w i r k = structure_is_not g texts given end v i (same_apart v w k ∙ ap apart_at r.told.is)

  one_fault : (v w : Fault) → IsBodyFault g body v → IsBodyFault g body w → key_of v ≡ key_of w → v ≡ w
  one_fault v w (inl i) (inl j) k = structure_keyed v w i j k
  one_fault v w (inl i) (inr r) k = absurd (apart v w i r k)
  one_fault v w (inr r) (inl j) k = absurd (apart w v j r (sym k))
  one_fault v w (inr r) (inr q) k = errors_keyed g.nodes 2 body given v w (sound_places g accepted.well_formed) r q k

  pub body_keyed : (faults : List Fault) → ((f : Fault) → Contains faults f ↔ IsBodyFault g body f) → IsKeyedBy key_of faults
  body_keyed faults are x y a b e = one_fault x y ((are x).0 a) ((are y).0 b) e
