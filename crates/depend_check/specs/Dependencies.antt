-- Own: dependencies between the segments of a set, over the whole set; how the 999 guide's IK3 and IK4 say that one is broken.
use Rattle.std.specs.Prelude.{ℕ, zero, suc, ◌≡◌, IsTrue, IsFalse, List, [], Bool, true, false}
use Rattle.std.specs.Prelude.{Option, Some, None, if◌then◌else◌}
use Rattle.std.specs.List.{Contains, list_any}
use Rattle.x12_bytes.specs.declared.delims.Delims.{Delims}
use Rattle.hub_kinds.specs.declared.codes.SegmentCode.{SegmentCode}
use Rattle.hub_kinds.specs.declared.codes.SegmentCode.TheVariants as ik304
use Rattle.hub_kinds.specs.declared.codes.ElementCode.{ElementCode}
use Rattle.hub_kinds.specs.declared.codes.ElementCode.TheVariants as ik403
use Rattle.hub_kinds.specs.declared.fault.Fault.{Fault}
use Rattle.hub_kinds.specs.declared.fault.ElemFault.{ElemFault}
use Rattle.guide_tree.specs.declared.rows.Dependency.{Dependency}
use Rattle.guide_tree.specs.declared.rows.DependencyKind.{DependencyKind}
use Rattle.guide_tree.specs.declared.rows.DependencyKind.TheVariants as kind
use Rattle.guide_tree.specs.declared.slot.Slot.{Slot}
use Rattle.guide_tree.specs.Words.{Tree, Trees, segment, loop, no_trees, tree, GuideTree, or_else, Segment, element_at, segment_id}
use Rattle.guide_tree.specs.Words.{has_label}
use Rattle.guide_tree.specs.Words.{Place}
use Rattle.elem_rules.specs.Rows.{reference_at}
use Rattle.loop_match.specs.PlacedSegments.{PlacedSegment, placed_segments, as_given}
use Rattle.depend_check.specs.Standing.{stands_at, fills, triggers}

-- the segment is a use of the slot with a label
abbrev pub is_use : (label : List ℕ) → PlacedSegment → Bool
is_use label p = stands_at label (as_given p)

-- a use of the dependency's slot that has one of the listed codes in the element
abbrev pub is_trigger : Dependency → PlacedSegment → Bool
is_trigger d p = triggers d (as_given p)

-- there is one somewhere in the set
abbrev pub is_dependency_triggered : Dependency → List PlacedSegment → Bool
is_dependency_triggered d placed = list_any (is_trigger d) placed

-- a slot of a guide, and the id of the innermost loop round it
pub record Seat : Type 0 where
  pub slot : Slot
  pub loop_id : List ℕ

-- the first slot that has a label
abbrev mutual
  pub seat_in : (outer label : List ℕ) → Tree → Option Seat
  seat_in outer label (segment s) = if has_label label s then Some (record { slot = s; loop_id = outer }) else None
  seat_in outer label (loop l ts) = seat_among l.id label ts

  pub seat_among : (outer label : List ℕ) → Trees → Option Seat
  seat_among outer label no_trees = None
  seat_among outer label (tree t ts) = or_else (seat_in outer label t) (seat_among outer label ts)

abbrev pub seat_of : Trees → (label : List ℕ) → Option Seat
seat_of ts label = seat_among [] label ts

-- a slot that is needed and isn't used is reported at the end
abbrev pub unused_fault : (end : ℕ) → Seat → Fault
unused_fault end seat = record {
  position = end;
  id = seat.slot.id;
  loop_id = seat.loop_id;
  code = ik304.DependentMissing;
  slot = seat.slot.number;
  elem = None;
}

abbrev pub use_fault : PlacedSegment → SegmentCode → Option ElemFault → Fault
use_fault p code elem = record {
  position = p.position;
  id = segment_id p.segment;
  loop_id = p.loop_id;
  code = code;
  slot = p.slot.number;
  elem = elem;
}

-- with the reference number of the element's row, and a copy
abbrev pub element_fault : PlacedSegment → (element : ℕ) → ElementCode → (copy : List ℕ) → Fault
element_fault p element code copy =
    use_fault p ik304.ElementErrors (Some (record {
      element = element;
      component = 0;
      repetition = 0;
      code = code;
      reference = reference_at p.slot.elements element;
      copy = copy;
    }))

abbrev pub has_element : Delims → PlacedSegment → (element : ℕ) → Bool
has_element delims p element = fills delims element (as_given p)

-- a use of the slot with a label that has an element, or hasn't
pub record IsUseWith (delims : Delims) (placed : List PlacedSegment) (label : List ℕ) (element : ℕ) (there : Bool)
    (p : PlacedSegment) : Type 0 where
  pub listed : Contains placed p
  pub used : IsTrue (is_use label p)
  pub has : has_element delims p element ≡ there

-- What breaks a dependency once it is triggered. A need without an element: the slot isn't used. A ban without one: each use.
-- A need of an element: each use without it. A ban of one: each use with it.
abbrev pub IsTargetBroken : Trees → Delims → (end : ℕ) → List PlacedSegment → (label : List ℕ) → DependencyKind → (element : ℕ)
    → Fault → Type 0
IsTargetBroken ts delims end placed label kind.Need zero f =
    (seat : Seat) × (seat_of ts label ≡ Some seat) × IsFalse (list_any (is_use label) placed) × (f ≡ unused_fault end seat)
IsTargetBroken ts delims end placed label kind.Ban zero f =
    (p : PlacedSegment) × Contains placed p × IsTrue (is_use label p) × (f ≡ use_fault p ik304.DependentNotUsedPresent None)
IsTargetBroken ts delims end placed label kind.Need (suc e) f =
    (p : PlacedSegment) × IsUseWith delims placed label (suc e) false p
    × (f ≡ element_fault p (suc e) ik403.DependentMissing [])
IsTargetBroken ts delims end placed label kind.Ban (suc e) f =
    (p : PlacedSegment) × IsUseWith delims placed label (suc e) true p
    × (f ≡ element_fault p (suc e) ik403.DependentNotUsedPresent (element_at p.segment (suc e)))

-- the same of a dependency
abbrev pub IsBroken : Trees → Delims → (end : ℕ) → List PlacedSegment → Dependency → Fault → Type 0
IsBroken ts delims end placed d f = IsTargetBroken ts delims end placed d.target d.kind d.element f

-- a dependency of the guide is triggered by these segments, and broken
pub record IsDependencyFault (g : GuideTree) (delims : Delims) (body : List Segment) (given : List (Option Place)) (end : ℕ) (f : Fault)
    : Type 0 where
  pub dependency : Dependency
  pub listed : Contains g.depends dependency
  pub triggered : IsTrue (is_dependency_triggered dependency (placed_segments g.nodes body given))
  pub broken : IsBroken g.nodes delims end (placed_segments g.nodes body given) dependency f
