-- 999 guide, IK3 and IK4: the faults of a segment's elements, as the segment reports them; and how they are added to a list.
use Rattle.std.specs.Prelude.{ℕ, ◌≡◌, ◌↔◌, ◌⊎◌, List, Some}
use Rattle.std.specs.List.{Contains}
use Rattle.hub_kinds.specs.declared.fault.Fault.{Fault}
use Rattle.hub_kinds.specs.declared.fault.ElemFault.{ElemFault}
use Rattle.hub_kinds.specs.declared.codes.SegmentCode.TheVariants as ik304
use Rattle.x12_segs.specs.Words.{SegValue, elements_of}
use Rattle.guide_tree.specs.declared.slot.Slot.{Slot}
use Rattle.guide_tree.specs.Words.{Segment, segment_id}
use Rattle.elem_rules.specs.ElementFaults.{IsElementFault}

-- a fault of an element, as the segment at a position reports it
abbrev pub fault_of_element : (position : ℕ) → Segment → (loop_id : List ℕ) → Slot → ElemFault → Fault
fault_of_element position s loop_id slot e = record {
  position = position;
  id = segment_id s;
  loop_id = loop_id;
  code = ik304.ElementErrors;
  slot = slot.number;
  elem = Some e;
}

-- one of the faults that the elements of the segment have by its slot
pub record IsTold (position : ℕ) (seg : SegValue) (loop_id : List ℕ) (slot : Slot) (f : Fault) : Type 0 where
  pub elem : ElemFault
  pub wrong : IsElementFault seg.delims (elements_of seg) slot elem
  pub is : f ≡ fault_of_element position (elements_of seg) loop_id slot elem

-- a list has what another has, and these
abbrev pub Adds : (old new : List Fault) → (Fault → Type 0) → Type 0
Adds old new P = (f : Fault) → Contains new f ↔ (Contains old f ⊎ P f)
