-- 999 guide, IK3 and IK4: what is wrong with the segments of a set, by its guide; and the set's codes. Which of two faults of one
-- key is reported is own.
use Rattle.std.specs.Prelude.{ℕ, ◌+◌, ◌≡◌, ◌↔◌, ◌⊎◌, List, Option, Some, None, Bool, false}
use Rattle.std.specs.List.{Contains, slice_get}
use Rattle.x12_bytes.specs.declared.delims.Delims.{Delims}
use Rattle.hub_kinds.specs.declared.fault.Fault.{Fault}
use Rattle.hub_kinds.specs.declared.fault.ElemFault.{ElemFault}
use Rattle.hub_kinds.specs.declared.codes.SegmentCode.TheVariants as ik304
use Rattle.hub_kinds.specs.declared.set_codes.SetCode.{SetCode}
use Rattle.hub_kinds.specs.Words.{key_of}
use Rattle.guide_tree.specs.declared.slot.Slot.{Slot}
use Rattle.guide_tree.specs.Words.{Trees, GuideTree, Segment, segment_id, Place, slot_at, placing_of, IsStructureFault}
use Rattle.elem_rules.specs.ElementFaults.{IsElementFault}
use Rattle.loop_match.specs.LoopIds.{loop_id_of}
use Rattle.hl_check.specs.Hierarchy.{IsHierarchyFault}
use Rattle.depend_check.specs.Dependencies.{IsDependencyFault}
use Rattle.set_check.specs.Codes.{set_codes_of}
use Rattle.set_check.specs.SetParts.{SetParts, segments_of_set, end_position}

-- an element fault, as its segment shows it
abbrev pub fault_of_element : (position : ℕ) → Segment → (loop_id : List ℕ) → Slot → ElemFault → Fault
fault_of_element position s loop_id slot e = record {
  position = position;
  id = segment_id s;
  loop_id = loop_id;
  code = ik304.ElementErrors;
  slot = slot.number;
  elem = Some e;
}

-- a segment that has a place has an element fault by the slot of that place
pub record IsErrorIn (ts : Trees) (parts : SetParts) (given : List (Option Place)) (f : Fault) : Type 0 where
  pub index : ℕ
  pub segment : Segment
  pub place : Place
  pub slot : Slot
  pub elem : ElemFault
  pub there : slice_get parts.body index ≡ Some segment
  pub placed : slice_get given index ≡ Some (Some place)
  pub leads : slot_at ts place ≡ Some slot
  pub wrong : IsElementFault parts.delims segment slot elem
  pub is : f ≡ fault_of_element (index + 2) segment (loop_id_of ts place) slot elem

-- a fault of the hierarchy of HL segments, or of a dependency
abbrev pub IsRuleFault : GuideTree → Delims → List Segment → List (Option Place) → (end : ℕ) → Fault → Type 0
IsRuleFault g delims body given end f = IsHierarchyFault g delims body given f ⊎ IsDependencyFault g delims body given end f

-- an element fault has the same key, by which faults are ordered
abbrev pub HasKeyOfError : Trees → SetParts → List (Option Place) → Fault → Type 0
HasKeyOfError ts parts given f = (e : Fault) × IsErrorIn ts parts given e × (key_of e ≡ key_of f)

-- what is wrong with a set whose segments are given these places: its structure, an element, or a hierarchy or dependency; where an
-- element fault and one of these have one key, the element fault is reported alone
abbrev pub IsFaultUnder : GuideTree → SetParts → List (Option Place) → Fault → Type 0
IsFaultUnder g parts given f =
    IsStructureFault g parts.body given (end_position parts) f
    ⊎ (IsErrorIn g.nodes parts given f
    ⊎ (IsRuleFault g parts.delims parts.body given (end_position parts) f × (HasKeyOfError g.nodes parts given f → ⊥)))

-- the faults of a set under the places that its guide gives; none where it has no guide
abbrev pub IsSetFault : Option GuideTree → SetParts → Fault → Type 0
IsSetFault None parts f = ⊥
IsSetFault (Some g) parts f = IsFaultUnder g parts (placing_of g.nodes parts.body) f

-- a list has exactly the set's faults
abbrev pub AreSetFaults : Option GuideTree → SetParts → List Fault → Type 0
AreSetFaults guide parts faults = (f : Fault) → Contains faults f ↔ IsSetFault guide parts f

-- the codes of a set that has these faults, and whose ST02 an earlier set of its group may have
abbrev pub set_codes_where : Option GuideTree → SetParts → List Fault → (earlier : Bool) → List SetCode
set_codes_where guide parts faults earlier =
    set_codes_of faults guide parts.header (segments_of_set parts) parts.trailer earlier

-- the same where that isn't asked
abbrev pub codes_with : Option GuideTree → SetParts → List Fault → List SetCode
codes_with guide parts faults = set_codes_where guide parts faults false
