-- 999 guide, IK4 (own): the element faults that a walk over a body adds, segment by segment, and which other faults are beside
-- them. Private.
use Rattle.std.specs.Prelude.{ℕ, ◌+◌, ◌≡◌, ◌<◌, ◌⊎◌, Bool, List, Option, Some}
use Rattle.std.specs.Ordering.{eq_by_cmp}
use Rattle.std.specs.List.{Contains, list_any, slice_get}
use Rattle.hub_kinds.specs.declared.fault.Fault.{Fault}
use Rattle.hub_kinds.specs.Words.{key_of, order_by}
use Rattle.x12_segs.specs.Words.{SegValue}
use Rattle.guide_tree.specs.declared.slot.Slot.{Slot}
use Rattle.guide_tree.specs.Words.{Trees, Place, slot_at, IsSound}
use Rattle.loop_match.specs.LoopIds.{loop_id_of}
use Rattle.set_walk.specs.Told.{IsTold}

-- an element fault of one of the first segments
pub record IsErrorBelow (ts : Trees) (segs : List SegValue) (given : List (Option Place)) (below : ℕ) (f : Fault) : Type 0 where
  pub index : ℕ
  pub before : index < below
  pub seg : SegValue
  pub place : Place
  pub slot : Slot
  pub there : slice_get segs index ≡ Some seg
  pub placed : slice_get given index ≡ Some (Some place)
  pub leads : slot_at ts place ≡ Some slot
  pub told : IsTold (index + 2) seg (loop_id_of ts place) slot f

-- one of some faults has the key of this one
abbrev pub has_key_among : List Fault → Fault → Bool
has_key_among faults f = list_any (λ e. eq_by_cmp (order_by key_of) e f) faults

abbrev pub HasKeyAmong : List Fault → Fault → Type 0
HasKeyAmong faults f = (e : Fault) × Contains faults e × (key_of e ≡ key_of f)

-- one of the first, or one of the others whose key none of the first has
abbrev pub IsBeside : (first others : List Fault) → Fault → Type 0
IsBeside first others f = Contains first f ⊎ (Contains others f × (HasKeyAmong first f → ⊥))

-- each slot to which a place leads keeps to what it has to
abbrev pub AreSound : Trees → Type 0
AreSound ts = (q : Place) (slot : Slot) → slot_at ts q ≡ Some slot → IsSound slot
