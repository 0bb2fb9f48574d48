-- The element faults of a set's segments, each as its segment shows it, are the same.
use Rattle.std.specs.Prelude.{◌≡◌, ◌↔◌, IsTrue, List, Some, None, map, flat_map}
use Rattle.std.specs.List.{Contains, list_all}
use Rattle.x12_bytes.specs.declared.delims.Delims.{Delims}
use Rattle.hub_kinds.specs.declared.fault.Fault.{Fault}
use Rattle.hub_kinds.specs.declared.codes.SegmentCode.TheVariants as ik304
use Rattle.guide_tree.specs.Tree.{GuideTree}
use Rattle.guide_tree.specs.declared.slot.Slot.{Slot}
use Rattle.guide_tree.specs.Words.{is_condition_of, Place, slot_at, placing_of}
use Rattle.set_check.specs.SetParts.{SetParts}
use Rattle.set_check.specs.SetFaults as old
use Rattle.night_definition.specs.Segments.{Elements}
use Rattle.night_definition.specs.Envelopes.{Set}
use Rattle.night_definition.specs.Places.{Use, placing, uses}
use Rattle.night_definition.specs.Elements.{element_faults}
use Rattle.night_definition.specs.Rules.{use_fault}
use Rattle.night_definition.specs.Sets.{body_of}
use Rattle.night_equal_set.specs.Parts.{IsThatSet}

-- the second of the four parts of `faults_by`
abbrev pub errors : GuideTree → Delims → List Elements → List Fault
errors g d body =
    flat_map (λ (x : Use). map (λ e. use_fault x ik304.ElementErrors (Some e)) (element_faults d x.spot.slot x.segment))
    (uses (placing g.nodes None 2 body))

-- the conditions of each slot of the guide list rows of the slot
abbrev pub HasConditions : GuideTree → Type 0
HasConditions g = (q : Place) (slot : Slot) → slot_at g.nodes q ≡ Some slot → IsTrue (list_all (is_condition_of slot) slot.conditions)

abbrev pub ErrorsAreOne : Type 0
ErrorsAreOne = (g : GuideTree) (d : Delims) (set : Set) (parts : SetParts) (f : Fault) → IsThatSet d set parts → HasConditions g
    → Contains (errors g d (body_of set)) f ↔ old.IsErrorIn g.nodes parts (placing_of g.nodes parts.body) f
