-- Own: the faults of dependencies, dependency by dependency, as they are found. Private.
use Rattle.std.specs.Prelude.{ℕ, ◌==◌, List, [], ◌∷◌, ◌++◌, Bool, true, false, not, ◌&&◌, ◌||◌, None, if◌then◌else◌}
use Rattle.std.specs.List.{list_any, flat_map}
use Rattle.std.specs.Option.{option_map_or}
use Rattle.x12_bytes.specs.declared.delims.Delims.{Delims}
use Rattle.hub_kinds.specs.declared.codes.SegmentCode.TheVariants as ik304
use Rattle.hub_kinds.specs.declared.codes.ElementCode.TheVariants as ik403
use Rattle.hub_kinds.specs.declared.fault.Fault.{Fault}
use Rattle.guide_tree.specs.declared.rows.Dependency.{Dependency}
use Rattle.guide_tree.specs.declared.rows.DependencyKind.{DependencyKind}
use Rattle.guide_tree.specs.declared.rows.DependencyKind.TheVariants as kind
use Rattle.guide_tree.specs.Words.{Trees, element_at}
use Rattle.loop_match.specs.PlacedSegments.{PlacedSegment}
use Rattle.depend_check.specs.Dependencies.{is_use, is_dependency_triggered, has_element, seat_of}
use Rattle.depend_check.specs.Dependencies.{unused_fault, use_fault, element_fault}

-- a use of the target breaks a triggered dependency
abbrev pub is_broken_by : Delims → DependencyKind → (element : ℕ) → PlacedSegment → Bool
is_broken_by delims kind.Need element p = not (element == 0) && not (has_element delims p element)
is_broken_by delims kind.Ban element p = (element == 0) || has_element delims p element

abbrev pub told_of : DependencyKind → (element : ℕ) → PlacedSegment → Fault
told_of kind.Need element p = element_fault p element ik403.DependentMissing []
told_of kind.Ban element p =
    if element == 0 then use_fault p ik304.DependentNotUsedPresent None
    else element_fault p element ik403.DependentNotUsedPresent (element_at p.segment element)

abbrev pub faults_of_use : Delims → (label : List ℕ) → DependencyKind → (element : ℕ) → PlacedSegment → List Fault
faults_of_use delims label kind element p =
    if is_use label p && is_broken_by delims kind element p then told_of kind element p ∷ [] else []

abbrev pub is_need : DependencyKind → Bool
is_need kind.Need = true
is_need kind.Ban = false

abbrev pub is_left_out : (label : List ℕ) → DependencyKind → (element : ℕ) → List PlacedSegment → Bool
is_left_out label kind element placed = is_need kind && (element == 0) && not (list_any (is_use label) placed)

abbrev pub faults_of_slot : Trees → (end : ℕ) → List PlacedSegment → (label : List ℕ) → DependencyKind → (element : ℕ) → List Fault
faults_of_slot ts end placed label kind element =
    if is_left_out label kind element placed then option_map_or (λ seat. unused_fault end seat ∷ []) (seat_of ts label) [] else []

abbrev pub faults_of_target : Trees → Delims → (end : ℕ) → List PlacedSegment → (label : List ℕ) → DependencyKind → (element : ℕ)
    → List Fault
faults_of_target ts delims end placed label kind element =
    faults_of_slot ts end placed label kind element ++ flat_map (faults_of_use delims label kind element) placed

abbrev pub faults_of : Trees → Delims → (end : ℕ) → List PlacedSegment → Dependency → List Fault
faults_of ts delims end placed d =
    if is_dependency_triggered d placed then faults_of_target ts delims end placed d.target d.kind d.element else []

abbrev pub found_faults : Trees → Delims → (end : ℕ) → List PlacedSegment → List Dependency → List Fault
found_faults ts delims end placed depends = flat_map (faults_of ts delims end placed) depends
