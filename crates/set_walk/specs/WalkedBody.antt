-- X12.6, transaction set, and the 999 guide, IK3 and IK4: what is wrong with a set's body by a guide, segment by segment: its structure
-- and its elements.
use Rattle.std.specs.Prelude.{ℕ, ◌+◌, ◌≡◌, ◌⊎◌, List, map, length, Option, Some}
use Rattle.std.specs.List.{slice_get}
use Rattle.hub_kinds.specs.declared.fault.Fault.{Fault}
use Rattle.x12_segs.specs.Words.{SegValue, elements_of}
use Rattle.guide_tree.specs.declared.slot.Slot.{Slot}
use Rattle.guide_tree.specs.Words.{Trees, GuideTree, Place, slot_at, placing_of, IsStructureFault}
use Rattle.loop_match.specs.LoopIds.{loop_id_of}
use Rattle.set_walk.specs.Told.{IsTold}

-- the places that the guide gives
abbrev pub places_by : GuideTree → List SegValue → List (Option Place)
places_by g body = placing_of g.nodes (map elements_of body)

-- a segment that has a place has an element fault by the slot of that place; the first of the segments is at position `first`
pub record IsElementFaultIn (ts : Trees) (first : ℕ) (body : List SegValue) (given : List (Option Place)) (f : Fault) : Type 0 where
  pub index : ℕ
  pub seg : SegValue
  pub place : Place
  pub slot : Slot
  pub there : slice_get body index ≡ Some seg
  pub placed : slice_get given index ≡ Some (Some place)
  pub leads : slot_at ts place ≡ Some slot
  pub told : IsTold (index + first) seg (loop_id_of ts place) slot f

-- a fault of the body's structure, or of an element; the first segment of a body is the set's second, and its end is after its last
abbrev pub IsBodyFault : GuideTree → List SegValue → Fault → Type 0
IsBodyFault g body f =
    IsStructureFault g (map elements_of body) (places_by g body) (length body + 2) f
    ⊎ IsElementFaultIn g.nodes 2 body (places_by g body) f
