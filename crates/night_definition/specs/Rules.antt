-- X12.6, HL, and a guide's dependencies (own): what is wrong with the segments that have places.
use Rattle.std.specs.Prelude.{ℕ, ◌+◌, zero, suc, Bool, false, not, ◌&&◌, ◌||◌, List, [], ◌∷◌, ◌++◌, length, codes, decimal, bytes_eq, map}
use Rattle.std.specs.Prelude.{Option, Some, None, if◌then◌else◌, is_some, is_none, find, filter, flat_map}
use Rattle.std.specs.Option.{option_map_or}
use Rattle.std.specs.List.{list_any}
use Rattle.x12_bytes.specs.declared.delims.Delims.{Delims}
use Rattle.guide_tree.specs.declared.slot.Slot.{Slot}
use Rattle.guide_tree.specs.declared.rows.HlRule.{HlRule}
use Rattle.guide_tree.specs.declared.rows.Dependency.{Dependency}
use Rattle.guide_tree.specs.declared.rows.DependencyKind.{DependencyKind}
use Rattle.guide_tree.specs.declared.rows.DependencyKind.TheVariants.{Need, Ban}
use Rattle.guide_tree.specs.Tree.{GuideTree}
use Rattle.hub_kinds.specs.declared.fault.Fault.{Fault}
use Rattle.hub_kinds.specs.declared.fault.ElemFault.{ElemFault}
use Rattle.hub_kinds.specs.declared.codes.SegmentCode.{SegmentCode}
use Rattle.hub_kinds.specs.declared.codes.SegmentCode.TheVariants as ik304
use Rattle.hub_kinds.specs.declared.codes.ElementCode.TheVariants as ik403
use Rattle.night_definition.specs.Segments.{Elements, element}
use Rattle.night_definition.specs.Guides.{is_among, slots, Given}
use Rattle.night_definition.specs.Elements.{is_filled, Wrong, wrong, fault_at}
use Rattle.night_definition.specs.Places.{Use}

abbrev pub use_fault : Use → SegmentCode → Option ElemFault → Fault
use_fault x code elem = record {
  position = x.position;
  id = element 0 x.segment;
  loop_id = x.spot.loop_id;
  code = code;
  slot = x.spot.slot.number;
  elem = elem;
}

abbrev pub element_fault : Use → (position : ℕ) → Wrong → Fault
element_fault x position w = use_fault x ik304.ElementErrors (Some (fault_at x.spot.slot position w))

-- HL01 is the number, HL02 the parent's number, HL03 the level, HL04 says whether there are children. All are compared as text.
abbrev pub first_numbered : (number : List ℕ) → List Elements → Option Elements
first_numbered number hls = find (λ h. bytes_eq (element 1 h) number) hls

-- HL01 repeats an earlier HL's, or isn't its ordinal although the guide asks for that
abbrev pub is_number_wrong : HlRule → Delims → (earlier : List Elements) → Elements → Bool
is_number_wrong rule d earlier h =
    is_filled d (element 1 h)
    && (is_some (first_numbered (element 1 h) earlier)
    || (rule.sequential && not (bytes_eq (element 1 h) (decimal (length earlier + 1)))))

-- HL02 isn't the HL01 of an earlier HL
abbrev pub is_parent_wrong : Delims → (earlier : List Elements) → Elements → Bool
is_parent_wrong d earlier h = is_filled d (element 2 h) && is_none (first_numbered (element 2 h) earlier)

abbrev pub is_listed : HlRule → (parent : Option (List ℕ)) → (level : List ℕ) → Bool
is_listed rule parent level = list_any (λ pair. same parent pair.parent && bytes_eq pair.child level) rule.pairs where
  same : Option (List ℕ) → Option (List ℕ) → Bool
  same None p = is_none p
  same (Some a) p = option_map_or (bytes_eq a) p false

-- the guide doesn't list the parent's level with HL03; without such a parent nothing is judged
abbrev pub is_level_wrong : HlRule → Delims → (earlier : List Elements) → Elements → Bool
is_level_wrong rule d earlier h =
    if is_filled d (element 2 h)
    then option_map_or (λ p. not (is_listed rule (Some (element 3 p)) (element 3 h))) (first_numbered (element 2 h) earlier) false
    else not (is_listed rule None (element 3 h))

-- HL04 is 1 although no later HL02 names this HL, or 0 although one does
abbrev pub is_child_wrong : Delims → Elements → (later : List Elements) → Bool
is_child_wrong d h later =
    let named = list_any (λ l. is_filled d (element 2 l) && bytes_eq (element 2 l) (element 1 h)) later in
    (bytes_eq (element 4 h) (codes "1") && not named) || (bytes_eq (element 4 h) (codes "0") && named)

abbrev pub fault_if : Bool → Fault → List Fault
fault_if broken f = if broken then f ∷ [] else []

abbrev pub hl_faults : HlRule → Delims → (earlier : List Elements) → List Use → List Fault
hl_faults rule d earlier [] = []
hl_faults rule d earlier (x ∷ later) =
    let h = x.segment in
    fault_if (is_number_wrong rule d earlier h) (element_fault x 1 (wrong 0 0 ik403.PatternFailure (element 1 h)))
    ++ fault_if (is_parent_wrong d earlier h) (element_fault x 2 (wrong 0 0 ik403.PatternFailure (element 2 h)))
    ++ fault_if (is_level_wrong rule d earlier h) (element_fault x 3 (wrong 0 0 ik403.CodeNotUsed (element 3 h)))
    ++ fault_if (is_child_wrong d h (map (λ l. l.segment) later)) (element_fault x 4 (wrong 0 0 ik403.PatternFailure (element 4 h)))
    ++ hl_faults rule d (earlier ++ h ∷ []) later

abbrev pub is_hl : Elements → Bool
is_hl s = bytes_eq (element 0 s) (codes "HL")

abbrev pub hierarchy_faults : GuideTree → Delims → List Use → List Fault
hierarchy_faults g d xs = option_map_or (λ rule. hl_faults rule d [] (filter (λ x. is_hl x.segment) xs)) g.hl []

abbrev pub has_label : (label : List ℕ) → Slot → Bool
has_label label slot = option_map_or (bytes_eq label) slot.label false

-- a use of the dependency's slot has one of its codes
abbrev pub triggers : Dependency → Given → Bool
triggers r x = has_label r.slot x.1 && is_among r.codes (element r.at x.0)

abbrev pub given : Use → Given
given x = (x.segment, x.spot.slot)

-- a slot is needed and has no use
abbrev pub unused_faults : GuideTree → (label : List ℕ) → (end : ℕ) → List Fault
unused_faults g label end =
    option_map_or (λ x. record {
      position = end;
      id = x.0.id;
      loop_id = x.1;
      code = ik304.DependentMissing;
      slot = x.0.number;
      elem = None;
    } ∷ [])
    (find (λ x. has_label label x.0) (slots [] g.nodes)) []

abbrev pub target_faults : GuideTree → Delims → (end : ℕ) → DependencyKind → (element : ℕ) → (label : List ℕ) → List Use → List Fault
target_faults g d end Need zero label [] = unused_faults g label end
target_faults g d end Need zero label (x ∷ targets) = []
target_faults g d end Ban zero label targets = map (λ x. use_fault x ik304.DependentNotUsedPresent None) targets
target_faults g d end Need (suc e) label targets =
    map (λ x. element_fault x (suc e) (wrong 0 0 ik403.DependentMissing []))
    (filter (λ x. not (is_filled d (element (suc e) x.segment))) targets)
target_faults g d end Ban (suc e) label targets =
    map (λ x. element_fault x (suc e) (wrong 0 0 ik403.DependentNotUsedPresent (element (suc e) x.segment)))
    (filter (λ x. is_filled d (element (suc e) x.segment)) targets)

abbrev pub dependency_faults : GuideTree → Delims → (end : ℕ) → List Use → List Fault
dependency_faults g d end xs =
    flat_map (λ (r : Dependency).
    if list_any (λ x. triggers r (given x)) xs
    then target_faults g d end r.kind r.element r.target (filter (λ x. has_label r.target x.spot.slot) xs) else [])
    g.depends
