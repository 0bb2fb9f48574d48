-- X12.6, order of segments in a transaction set: the segments of a body that have places, each with its position, its slot and the
-- loop that it is in (999 guide, IK3: segment position, loop identifier code).
use Rattle.std.specs.Prelude.{ℕ, zero, suc, ◌+◌, ◌<◌, ◌≡◌, ◌↔◌, List, [], ◌∷◌, ◌++◌, length}
use Rattle.std.specs.Prelude.{Option, Some, None, option_map, slice_get, slice_index_or}
use Rattle.std.specs.List.{Contains}
use Rattle.guide_tree.specs.declared.slot.Slot.{Slot}
use Rattle.guide_tree.specs.Words.{Trees, Segment, Given, Place, slot_at}
use Rattle.loop_match.specs.LoopIds.{loop_id_of}

-- a segment that has a place: its position in the set, ST being 1, its slot, and the id of the innermost loop round it
pub record PlacedSegment : Type 0 where
  pub position : ℕ
  pub segment : Segment
  pub slot : Slot
  pub loop_id : List ℕ

abbrev pub placed_by : Trees → (index : ℕ) → Segment → Option Place → Option PlacedSegment
placed_by ts index s None = None
placed_by ts index s (Some q) =
    option_map (λ slot. record { position = index + 2; segment = s; slot = slot; loop_id = loop_id_of ts q }) (slot_at ts q)

abbrev pub placed_at : Trees → List Segment → List (Option Place) → (index : ℕ) → Option PlacedSegment
placed_at ts body given index = placed_by ts index (slice_index_or body index []) (slice_index_or given index None)

abbrev pub with_placed : List PlacedSegment → Option PlacedSegment → List PlacedSegment
with_placed placed None = placed
with_placed placed (Some p) = placed ++ p ∷ []

-- those of the first n segments, in their order
abbrev pub placed_among_first : Trees → List Segment → List (Option Place) → (n : ℕ) → List PlacedSegment
placed_among_first ts body given zero = []
placed_among_first ts body given (suc n) = with_placed (placed_among_first ts body given n) (placed_at ts body given n)

abbrev pub placed_segments : Trees → List Segment → List (Option Place) → List PlacedSegment
placed_segments ts body given = placed_among_first ts body given (length body)

-- the segment with this index in the body has a place, which leads to a slot: so it is at its position, with that slot and loop
pub record IsPlacedAt (ts : Trees) (body : List Segment) (given : List (Option Place)) (index : ℕ) (p : PlacedSegment) : Type 0 where
  pub place : Place
  pub given_place : slice_get given index ≡ Some (Some place)
  pub segment : slice_get body index ≡ Some p.segment
  pub slot : slot_at ts place ≡ Some p.slot
  pub position : p.position ≡ index + 2
  pub loop_id : p.loop_id ≡ loop_id_of ts place

-- the placed segments are those of the body that have a place which leads to a slot, and no other: no stray is among them
abbrev pub AreThoseWithPlaces : Trees → List Segment → List (Option Place) → Type 0
AreThoseWithPlaces ts body given =
    (p : PlacedSegment) → Contains (placed_segments ts body given) p ↔ ((index : ℕ) × IsPlacedAt ts body given index p)

-- they are in the order of the body, each once
abbrev pub AreInOrder : List PlacedSegment → Type 0
AreInOrder placed = (j k : ℕ) (p q : PlacedSegment) → slice_get placed j ≡ Some p → slice_get placed k ≡ Some q → j < k
    → p.position < q.position

-- a placed segment as a derivation gives it: with its slot
abbrev pub as_given : PlacedSegment → Given
as_given p = (p.segment, p.slot)
