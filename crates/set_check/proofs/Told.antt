-- The faults of a set's structure and elements, computed: where nothing is wrong by a hierarchy or dependency, they are all faults.
use Rattle.std.proofs.Common.{⊎_elim, ◌≡◌, ◌+◌, inl, inr, ◌↔◌, List, [], ◌∷◌, ◌++◌, Option, Some, None, refl, ap, ◌∙◌, subst, sym, arith, ℕ}
use Rattle.std.specs.Prelude.{IsSomeAnd}
use Rattle.std.specs.List.{Contains}
use Rattle.hub_kinds.specs.declared.fault.Fault.{Fault}
use Rattle.hub_kinds.specs.declared.set_codes.SetCode.{SetCode}
use Rattle.guide_tree.specs.declared.rows.Dependency.{Dependency}
use Rattle.guide_tree.specs.declared.rows.HlRule.{HlRule}
use Rattle.guide_tree.specs.Words.{IsStructureFault, GuideTree, IsWellFormed, placing_of, structure_faults}
use Rattle.elem_rules.proofs.ForAbove.{no_member}
use Rattle.hl_check.specs.Hierarchy.{IsFaultAmong, hls_of}
use Rattle.guide_tree.proofs.ForAbove.{In}
use Rattle.guide_law.proofs.ForAbove.{in_left, in_right, in_cases, in_contains, contains_in, members}
use Rattle.set_check.specs.SetParts.{SetParts, end_position}
use Rattle.loop_match.specs.LoopIds.{loop_id_of}
use Rattle.set_check.specs.SetFaults.{IsErrorIn, IsRuleFault, IsSetFault, AreSetFaults, codes_with, fault_of_element}
use Rattle.set_check.specs.Meets.{MeetsAlone}
use Rattle.set_check.specs.MeetsLaw.{IsWellGuided}
use Rattle.set_check.proofs.Errors.{errors_from, IsErrorFrom, is_error, error_is}
use Rattle.set_walk.proofs.ForAbove.{sound_places}
use Rattle.set_check.proofs.Meeting.{clean_as_it_meets}

abbrev pub structure : GuideTree → SetParts → List Fault
structure g parts = structure_faults g (end_position parts) parts.body (placing_of g.nodes parts.body)

abbrev pub errors : GuideTree → SetParts → List Fault
errors g parts = errors_from g.nodes parts.delims 2 parts.body (placing_of g.nodes parts.body)

abbrev pub all_faults : GuideTree → SetParts → List Fault
all_faults g parts = structure g parts ++ errors g parts

pub error_in : (g : GuideTree) (parts : SetParts) (f : Fault)
    → IsErrorFrom g.nodes parts.delims 2 parts.body (placing_of g.nodes parts.body) f
    → IsErrorIn g.nodes parts (placing_of g.nodes parts.body) f
error_in g parts f r =
    let k : 2 + r.index ≡ r.index + 2 = omega arith in
    record {
      index = r.index;
      segment = r.segment;
      place = r.place;
      slot = r.slot;
      elem = r.elem;
      there = r.there;
      placed = r.placed;
      leads = r.leads;
      wrong = r.wrong;
      is = r.is ∙ ap (λ (n : ℕ). fault_of_element n r.segment (loop_id_of g.nodes r.place) r.slot r.elem) k;
    }

pub error_out : (g : GuideTree) (parts : SetParts) (f : Fault) → IsErrorIn g.nodes parts (placing_of g.nodes parts.body) f
    → IsErrorFrom g.nodes parts.delims 2 parts.body (placing_of g.nodes parts.body) f
error_out g parts f r =
    let k : r.index + 2 ≡ 2 + r.index = omega arith in
    record {
      index = r.index;
      segment = r.segment;
      place = r.place;
      slot = r.slot;
      elem = r.elem;
      there = r.there;
      placed = r.placed;
      leads = r.leads;
      wrong = r.wrong;
      is = r.is ∙ ap (λ (n : ℕ). fault_of_element n r.segment (loop_id_of g.nodes r.place) r.slot r.elem) k;
    }

abbrev pub IsOfRules : GuideTree → SetParts → Fault → Type 0
IsOfRules g parts f = IsRuleFault g parts.delims parts.body (placing_of g.nodes parts.body) (end_position parts) f

-- a guide without hierarchy and dependencies
pub none_of_rules : (g : GuideTree) (parts : SetParts) → g.hl ≡ None → g.depends ≡ [] → (f : Fault) → IsOfRules g parts f → ⊥
none_of_rules g parts h d f (inl x) = subst (λ (r : Option HlRule). IsSomeAnd r (λ rule. IsFaultAmong rule parts.delims
    (hls_of g.nodes parts.body (placing_of g.nodes parts.body)) f)) h x
none_of_rules g parts h d f (inr x) = no_member x.dependency (subst (λ (l : List Dependency). Contains l x.dependency) d x.listed)

pub in_errors : (g : GuideTree) (parts : SetParts) → IsWellFormed g → (f : Fault)
    → In (errors g parts) f ↔ IsErrorIn g.nodes parts (placing_of g.nodes parts.body) f
in_errors g parts w f = (
  λ h. error_in g parts f (is_error g.nodes parts.delims 2 parts.body (placing_of g.nodes parts.body) f (sound_places g w) h),
  λ h. error_is g.nodes parts.delims 2 parts.body (placing_of g.nodes parts.body) f (sound_places g w) (error_out g parts f h),
)

pub in_structure : (g : GuideTree) (parts : SetParts) → IsWellFormed g → (f : Fault)
    → In (structure g parts) f ↔ IsStructureFault g parts.body (placing_of g.nodes parts.body) (end_position parts) f
in_structure g parts w f = (
  λ h. (members g w parts.body (end_position parts) f).0 (in_contains (structure g parts) f h),
  λ h. contains_in (structure g parts) f ((members g w parts.body (end_position parts) f).1 h),
)

pub all_are : (g : GuideTree) (parts : SetParts) → IsWellFormed g → ((f : Fault) → IsOfRules g parts f → ⊥)
    → AreSetFaults (Some g) parts (all_faults g parts)
all_are g parts w none f = (
  (λ h. ⊎_elim
      (λ a. inl ((in_structure g parts w f).0 a))
      (λ b. inr (inl ((in_errors g parts w f).0 b)))
      (in_cases (structure g parts) (errors g parts) f (contains_in (all_faults g parts) f h))),
  (λ h. in_contains (all_faults g parts) f (⊎_elim
      (λ a. in_left (structure g parts) (errors g parts) f ((in_structure g parts w f).1 a))
      (λ b. ⊎_elim (λ x. in_right (structure g parts) (errors g parts) f ((in_errors g parts w f).1 x))
      (λ x. absurd (none f x.0)) b) h)),
)

-- a set without a computed fault, without one of a hierarchy or dependency, and without a code meets its guide, and no other does
pub meets_by : (g : GuideTree) (parts : SetParts) → IsWellFormed g → ((f : Fault) → IsOfRules g parts f → ⊥)
    → all_faults g parts ≡ [] → codes_with (Some g) parts [] ≡ [] → MeetsAlone (Some g) parts
meets_by g parts w none e c = (clean_as_it_meets (Some g) w parts).0
    ((λ f h. absurd (subst (λ (l : List Fault). In l f) e (contains_in (all_faults g parts) f ((all_are g parts w none f).1 h)))), c)

pub fails_by : (g : GuideTree) (parts : SetParts) (f : Fault) → IsWellFormed g → IsSetFault (Some g) parts f
    → MeetsAlone (Some g) parts → ⊥
fails_by g parts f w h m = ((clean_as_it_meets (Some g) w parts).1 m).0 f h

pub fails_by_fault : (g : GuideTree) (parts : SetParts) (f : Fault) (more : List Fault) → IsWellFormed g
    → ((f : Fault) → IsOfRules g parts f → ⊥) → all_faults g parts ≡ f ∷ more → MeetsAlone (Some g) parts → ⊥
fails_by_fault g parts f more w none e m = fails_by g parts f w
    ((all_are g parts w none f).0 (in_contains (all_faults g parts) f (subst (λ (l : List Fault). In l f) (sym e) (inl refl)))) m

-- where no element is at fault, each fault of a hierarchy or dependency is one of the set
pub fault_of_rules : (g : GuideTree) (parts : SetParts) (f : Fault) → IsWellFormed g → errors g parts ≡ [] → IsOfRules g parts f
    → IsSetFault (Some g) parts f
fault_of_rules g parts f w e r =
    inr (inr (r, λ k. subst (λ (l : List Fault). In l k.0) e ((in_errors g parts w k.0).1 k.1)))

pub fails_by_code : (guide : Option GuideTree) (parts : SetParts) (c : SetCode) (more : List SetCode) → IsWellGuided guide
    → codes_with guide parts [] ≡ c ∷ more → MeetsAlone guide parts → ⊥
fails_by_code guide parts c more w e m =
    let n : codes_with guide parts [] ≡ [] = ((clean_as_it_meets guide w parts).1 m).1 in
    let k : c ∷ more ≡ [] = sym e ∙ n in cc
