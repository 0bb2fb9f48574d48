-- X12.6, transaction set, and 999 guide, IK5: a set's faults, codes and verdict; and what it means that a set meets its guide.
use Rattle.std.specs.Prelude.{ℕ, zero, suc, ◌≡◌, ◌≤◌, ◌+◌, ◌==◌, nat_lt, Bool, true, false, not, ◌&&◌, ◌||◌, IsTrue, List, [], ◌∷◌, ◌++◌}
use Rattle.std.specs.Prelude.{map, length}
use Rattle.std.specs.Prelude.{Option, Some, None, if◌then◌else◌, is_some, is_none, codes, bytes_eq, take, drop, filter, flat_map, fold}
use Rattle.std.specs.Prelude.{slice_get}
use Rattle.std.specs.Option.{option_map_or}
use Rattle.std.specs.List.{Contains, list_all, list_any}
use Rattle.std.specs.Cmp.Lexicographic.{slice_cmp}
use Rattle.std.specs.Ordering.{nat_cmp, match_ordering}
use Rattle.x12_bytes.specs.declared.delims.Delims.{Delims}
use Rattle.guide_tree.specs.declared.rows.HlRule.{HlRule}
use Rattle.guide_tree.specs.declared.rows.Dependency.{Dependency}
use Rattle.guide_tree.specs.declared.rows.DependencyKind.{DependencyKind}
use Rattle.guide_tree.specs.declared.rows.DependencyKind.TheVariants.{Need, Ban}
use Rattle.guide_tree.specs.Tree.{GuideTree}
use Rattle.hub_kinds.specs.declared.fault.Fault.{Fault}
use Rattle.hub_kinds.specs.declared.fault.ElemFault.{ElemFault}
use Rattle.hub_kinds.specs.declared.set_codes.SetCode.{SetCode}
use Rattle.hub_kinds.specs.declared.set_codes.SetCode.TheVariants as ik502
use Rattle.hub_kinds.specs.declared.set_codes.Verdict.{Verdict}
use Rattle.hub_kinds.specs.declared.set_codes.Verdict.TheVariants as ik501
use Rattle.night_definition.specs.Header.{number_of}
use Rattle.night_definition.specs.Segments.{Elements, element}
use Rattle.night_definition.specs.Envelopes.{Set}
use Rattle.night_definition.specs.Guides.{Given, Derives}
use Rattle.night_definition.specs.Elements.{is_filled, element_faults}
use Rattle.night_definition.specs.Places.{placing, uses, Use}
use Rattle.night_definition.specs.Structure.{structure_faults}
use Rattle.night_definition.specs.Rules.{hierarchy_faults, dependency_faults, use_fault, is_number_wrong, is_parent_wrong, is_level_wrong}
use Rattle.night_definition.specs.Rules.{is_child_wrong}
use Rattle.night_definition.specs.Rules.{is_hl, has_label, triggers}
use Rattle.night_definition.specs.Codes.{key_of, ik304_of, ik403_of}
use Rattle.hub_kinds.specs.declared.codes.SegmentCode.TheVariants as ik304

-- a fault put into the ordered list; of two with the same key the first is kept
abbrev pub with_fault : List Fault → Fault → List Fault
with_fault [] f = f ∷ []
with_fault (x ∷ xs) f = match_ordering (slice_cmp nat_cmp (key_of f) (key_of x)) (f ∷ x ∷ xs) (x ∷ xs) (x ∷ with_fault xs f)

abbrev pub body_of : Set → List Elements
body_of set = map (λ s. s.elements) set.inner

-- the position of SE; if it is missing, one more than the number of segments
abbrev pub end_of : Set → ℕ
end_of set = length set.inner + 2

-- of two faults with one key, the element's own is kept
abbrev pub faults_by : GuideTree → Delims → Set → List Fault
faults_by g d set =
    let placed = placing g.nodes None 2 (body_of set) in
    let xs = uses placed in
    fold with_fault []
    (structure_faults g placed (end_of set)
    ++ flat_map (λ (x : Use). map (λ e. use_fault x ik304.ElementErrors (Some e)) (element_faults d x.spot.slot x.segment)) xs
    ++ hierarchy_faults g d xs
    ++ dependency_faults g d (end_of set) xs)

-- without a guide nothing in the body is checked
abbrev pub faults_of : Option GuideTree → Delims → Set → List Fault
faults_of guide d set = option_map_or (λ g. faults_by g d set) guide []

abbrev pub segment_count : Set → ℕ
segment_count set = length set.inner + (if is_some set.trailer then 2 else 1)

abbrev pub control_of : Set → List ℕ
control_of set = element 2 set.header.elements

-- the code that reports a fault: IK403, or IK304
abbrev pub reported_code : Fault → List ℕ
reported_code f = option_map_or (λ (e : ElemFault). (ik403_of e.code).0) f.elem (ik304_of f.code).0

abbrev pub is_of_guides : List ℕ → Bool
is_of_guides code = bytes_eq (take 1 code) (codes "I")

abbrev pub code_if : {A : Type 0} → Bool → A → List A
code_if holds code = if holds then code ∷ [] else []

-- SE01 is the number of segments, in 1 to 10 digits
abbrev pub is_counted : Set → Elements → Bool
is_counted set se = option_map_or (λ n. n == segment_count set) (number_of 10 (element 1 se)) false

abbrev pub trailer_codes : Set → List SetCode
trailer_codes set =
    option_map_or (λ se.
    code_if (not (bytes_eq (element 2 se.elements) (control_of set))) ik502.ControlNumbersDiffer
    ++ code_if (not (is_counted set se.elements)) ik502.SegmentCountWrong)
    set.trailer (ik502.TrailerMissing ∷ [])

abbrev pub has_other_convention : Delims → GuideTree → Set → Bool
has_other_convention d g set =
    let st03 = element 3 set.header.elements in
    option_map_or (λ own. is_filled d st03 && not (bytes_eq st03 own)) g.head.convention false

-- in the order in which they are written, at most five
abbrev pub set_codes : Option GuideTree → Delims → Set → List Fault → (earlier : Bool) → List SetCode
set_codes guide d set faults earlier = take 5
    (code_if (list_any (λ f. not (is_of_guides (reported_code f))) faults) ik502.SegmentsInError
    ++ code_if (list_any (λ f. is_of_guides (reported_code f)) faults) ik502.ImplementationSegmentsInError
    ++ code_if (is_none guide) ik502.NotSupported
    ++ trailer_codes set
    ++ code_if (nat_lt (length (control_of set)) 4) ik502.ControlNumberInvalid
    ++ code_if earlier ik502.ControlNumberNotUnique
    ++ code_if (option_map_or (λ g. has_other_convention d g set) guide false) ik502.ConventionNotSupported)

abbrev pub reports_faults : SetCode → Bool
reports_faults ik502.SegmentsInError = true
reports_faults ik502.ImplementationSegmentsInError = true
reports_faults code = false

abbrev pub tolerates : GuideTree → Fault → Bool
tolerates g f =
    option_map_or (λ (e : ElemFault). list_any (λ c. (ik403_of c).1 == (ik403_of e.code).1) g.head.tolerate_element) f.elem
    (list_any (λ c. (ik304_of c).1 == (ik304_of f.code).1) g.head.tolerate_segment)

abbrev pub verdict_on : Option GuideTree → List Fault → List SetCode → Verdict
verdict_on guide [] [] = ik501.Accepted
verdict_on guide faults codes =
    if list_all reports_faults codes && list_all (λ f. option_map_or (λ g. tolerates g f) guide false) faults
    then ik501.AcceptedWithErrors else ik501.Rejected

-- the target of a dependency is as the dependency asks
abbrev pub IsTargetKept : Delims → List Given → Dependency → Type 0
IsTargetKept d xs r = by r.kind r.element where
  fills : ℕ → Given → Bool
  fills e x = has_label r.target x.1 && is_filled d (element e x.0)

  by : DependencyKind → ℕ → Type 0
  by Need zero = IsTrue (list_any (λ x. has_label r.target x.1) xs)
  by Ban zero = IsTrue (list_all (λ x. not (has_label r.target x.1)) xs)
  by Need (suc e) = IsTrue (list_all (λ x. not (has_label r.target x.1) || is_filled d (element (suc e) x.0)) xs)
  by Ban (suc e) = IsTrue (list_all (λ x. not (has_label r.target x.1 && is_filled d (element (suc e) x.0))) xs)

-- each HL agrees with those before and after it
abbrev pub IsHierarchyWhole : HlRule → Delims → List Elements → Type 0
IsHierarchyWhole rule d hls = (n : ℕ) (h : Elements) → slice_get hls n ≡ Some h →
    IsTrue (not (is_number_wrong rule d (take n hls) h) && not (is_parent_wrong d (take n hls) h)
    && not (is_level_wrong rule d (take n hls) h) && not (is_child_wrong d h (drop (n + 1) hls)))

-- A set meets its guide: the guide derives its body; no element is wrong under its slot; its HLs make one whole hierarchy; the
-- dependencies are kept; its envelope and its convention are right.
pub record MeetsAlone (guide : Option GuideTree) (d : Delims) (set : Set) : Type 0 where
  pub known : GuideTree
  pub guided : guide ≡ Some known
  pub slots : List Given
  pub body : map (λ x. x.0) slots ≡ body_of set
  pub derived : Derives known.nodes slots
  pub elements : (x : Given) → Contains slots x → element_faults d x.1 x.0 ≡ []
  pub hierarchy : (rule : HlRule) → known.hl ≡ Some rule → IsHierarchyWhole rule d (filter is_hl (body_of set))
  pub dependencies : (r : Dependency) → Contains known.depends r → IsTrue (list_any (triggers r) slots) → IsTargetKept d slots r
  pub envelope : trailer_codes set ≡ []
  pub control : 4 ≤ length (control_of set)
  pub convention : has_other_convention d known set ≡ false

-- and no earlier set of its group has the same ST02
pub record Meets (guide : Option GuideTree) (d : Delims) (before : List Set) (set : Set) : Type 0 where
  pub alone : MeetsAlone guide d set
  pub first : list_any (λ s. bytes_eq (control_of s) (control_of set)) before ≡ false
