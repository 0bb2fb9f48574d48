-- The segments of a body that have places stand at the positions of the body, each at one.
use Rattle.std.proofs.Common.{◌≡◌, ◌⊎◌, inl, inr, ℕ, zero, suc, ◌+◌, ◌<◌, List, [], length, Option, Some, None}
use Rattle.std.proofs.Common.{sym, ap, ◌∙◌, arith}
use Rattle.std.specs.Prelude.{option_map, slice_index_or}
use Rattle.std.specs.List.{Contains}
use Rattle.std.proofs.lemmas.List.Elements.{Contains-push_cases}
use Rattle.guide_tree.specs.declared.slot.Slot.{Slot}
use Rattle.guide_tree.specs.Words.{Trees, Segment, Place, slot_at}
use Rattle.loop_match.specs.LoopIds.{loop_id_of}
use Rattle.loop_match.specs.PlacedSegments.{PlacedSegment, placed_by, placed_at, with_placed, placed_among_first, placed_segments}

abbrev pub stood : ℕ → Segment → List ℕ → Slot → PlacedSegment
stood index s loop_id slot = record { position = index + 2; segment = s; slot = slot; loop_id = loop_id }

position_with : (o : Option Slot) (index : ℕ) (s : Segment) (loop_id : List ℕ) (p : PlacedSegment)
    → option_map (stood index s loop_id) o ≡ Some p → p.position ≡ index + 2
position_with (Some slot) index s loop_id p e =
    let m : stood index s loop_id slot ≡ p = cc in ap (λ (x : PlacedSegment). x.position) (sym m)
position_with None index s loop_id p e = cc

pub position_of : (ts : Trees) (index : ℕ) (s : Segment) (place : Option Place) (p : PlacedSegment)
    → placed_by ts index s place ≡ Some p → p.position ≡ index + 2
position_of ts index s None p e = cc
position_of ts index s (Some q) p e = position_with (slot_at ts q) index s (loop_id_of ts q) p e

abbrev Stands : Trees → List Segment → List (Option Place) → PlacedSegment → Type 0
Stands ts body given p = (index : ℕ) × (placed_at ts body given index ≡ Some p)

pub from_with_placed : (placed : List PlacedSegment) (o : Option PlacedSegment) (p : PlacedSegment) → Contains (with_placed placed o) p
    → Contains placed p ⊎ (o ≡ Some p)
from_with_placed placed None p c = inl c
from_with_placed placed (Some x) p c = elim (Contains-push_cases placed x p c) [ inl e ↦ inl e | inr e ↦ inr (ap Some e) ]

stands : (ts : Trees) (body : List Segment) (given : List (Option Place)) (n : ℕ) (p : PlacedSegment)
    → Contains (placed_among_first ts body given n) p → Stands ts body given p
stands ts body given zero p c = let l : c.0 < 0 = c.1 in absurd (omega arith)
stands ts body given (suc n) p c = elim (from_with_placed (placed_among_first ts body given n) (placed_at ts body given n) p c) [
  | inl e ↦ stands ts body given n p e
  | inr e ↦ (n, e)
]

same_placed : (ts : Trees) (body : List Segment) (given : List (Option Place)) (x y : PlacedSegment)
    → Stands ts body given x → Stands ts body given y → x.position ≡ y.position → x ≡ y
same_placed ts body given x y (i, a) (j, b) p =
    let e : x.position ≡ i + 2 = position_of ts i (slice_index_or body i []) (slice_index_or given i None) x a in
    let f : y.position ≡ j + 2 = position_of ts j (slice_index_or body j []) (slice_index_or given j None) y b in
    let same : i ≡ j = omega arith in
    let is : Some x ≡ Some y = sym a ∙ ap (placed_at ts body given) same ∙ b in
    cc

-- one stands at each position
pub one_placed : (ts : Trees) (body : List Segment) (given : List (Option Place)) (x y : PlacedSegment)
    → Contains (placed_segments ts body given) x → Contains (placed_segments ts body given) y → x.position ≡ y.position → x ≡ y
one_placed ts body given x y a b p =
    same_placed ts body given x y (stands ts body given (length body) x a) (stands ts body given (length body) y b) p
