-- Each set has its faults.
use Rattle.std.proofs.Common.{◌≡◌, ◌↔◌, ◌⊎◌, inl, inr, ℕ, List, [], ◌∷◌, ◌++◌, map, Option, Some, None, refl, ap, subst}
use Rattle.std.specs.List.{slice_get}
use Rattle.x12_bytes.specs.declared.delims.Delims.{Delims}
use Rattle.hub_kinds.specs.declared.fault.Fault.{Fault}
use Rattle.x12_segs.specs.Words.{elements_of}
use Rattle.elem_rules.specs.ElementFaults.{IsElementFault}
use Rattle.guide_tree.specs.declared.rows.GuideRows.{GuideRows}
use Rattle.guide_tree.specs.Words.{GuideTree, IsAccepted, IsStructureFault, Place, guide_of, placing_of, structure_faults}
use Rattle.guide_tree.proofs.ForAbove.{In}
use Rattle.guide_law.proofs.ForAbove.{contains_in, in_cases, in_contains, in_left, in_right, members}
use Rattle.set_walk.proofs.ForAbove.{sound_places}
use Rattle.set_check.specs.SetParts.{SetParts, end_position, no_segment}
use Rattle.set_check.specs.SetFaults.{AreSetFaults, HasKeyOfError, IsErrorIn, IsFaultUnder, IsRuleFault}
use Rattle.night_definition.specs.Segments.{Elements, Segment}
use Rattle.night_definition.specs.Envelopes.{Set}
use Rattle.night_definition.specs.Places.{placing, uses}
use Rattle.night_definition.specs.Rules.{hierarchy_faults, dependency_faults}
use Rattle.night_definition.specs.Sets.{body_of}
use Rattle.night_equal_set.specs.Errors.{errors, ErrorsAreOne, HasConditions}
use Rattle.night_equal_set.specs.Parts.{IsThatSet}
use Rattle.night_equal_set.specs.RuleFaults.{RuleFaultsAreOne}
use Rattle.layers_exist.specs.Laws.{EachSetHasItsFaults}
use Rattle.layers_exist.proofs.Keyed.{one_fault}
use Rattle.layers_exist.proofs.Sorting.{AreKeyed, from_order, in_order, into_order, rising}
use Rattle.layers_exist.proofs.Without.{HasKeyIn, without}

-- a set of the definition with a body, and what the layers have for it
abbrev segment : Elements → Segment
segment elements = record { start = 0; end = 0; elements = elements }

abbrev set_with : Delims → List Elements → Set
set_with d body = record { header = segment (elements_of (no_segment d)); inner = map segment body; trailer = None }

abbrev parts_with : Delims → List Elements → SetParts
parts_with d body = record { delims = d; header = no_segment d; body = body; trailer = None }

same_body : (body : List Elements) → body ≡ map (λ (s : Segment). s.elements) (map segment body)
same_body [] = refl
same_body (s ∷ body) = ap (λ (b : List Elements). s ∷ b) (same_body body)

is_that_set : (d : Delims) (body : List Elements) → IsThatSet d (set_with d body) (parts_with d body)
is_that_set d body = record { delims = refl; header_delims = refl; header = refl; body = same_body body; trailer = refl }

module _ (errors_one : ErrorsAreOne) (rules_one : RuleFaultsAreOne) (rows : GuideRows) (accepted : IsAccepted rows) (parts : SetParts) where
  abbrev g : GuideTree
  g = guide_of rows

  abbrev given : List (Option Place)
  given = placing_of g.nodes parts.body

  abbrev end : ℕ
  end = end_position parts

  abbrev by_nodes : List Fault
  by_nodes = structure_faults g end parts.body given

  abbrev by_elements : List Fault
  by_elements = errors g parts.delims (body_of (set_with parts.delims parts.body))

  abbrev by_rules : List Fault
  by_rules = hierarchy_faults g parts.delims (uses (placing g.nodes None 2 parts.body))
      ++ dependency_faults g parts.delims end (uses (placing g.nodes None 2 parts.body))

  conditioned : HasConditions g
  conditioned q slot leads = (sound_places g accepted.well_formed q slot leads).conditioned

  nodes_are : (f : Fault) → In by_nodes f ↔ IsStructureFault g parts.body given end f
  nodes_are f =
      let is = members g accepted.well_formed parts.body end f in
      (λ i. is.0 (in_contains by_nodes f i), λ h. contains_in by_nodes f (is.1 h))

  -- an element fault depends on the body and the delimiters alone
  error_moved : (p q : SetParts) (f : Fault) → p.body ≡ q.body → p.delims ≡ q.delims → IsErrorIn g.nodes p given f
      → IsErrorIn g.nodes q given f
  error_moved p q f body delims r = record {
    index = r.index;
    segment = r.segment;
    place = r.place;
    slot = r.slot;
    elem = r.elem;
    there = subst (λ b. slice_get b r.index ≡ Some r.segment) body r.there;
    placed = r.placed;
    leads = r.leads;
    wrong = subst (λ d. IsElementFault d r.segment r.slot r.elem) delims r.wrong;
    is = r.is;
  }

  elements_are : (f : Fault) → In by_elements f ↔ IsErrorIn g.nodes parts given f
  elements_are f =
      let other : SetParts = parts_with parts.delims parts.body in
      let is = errors_one g parts.delims (set_with parts.delims parts.body) other f (is_that_set parts.delims parts.body) conditioned in (
        (λ i. error_moved other parts f refl refl (is.0 (in_contains by_elements f i))),
        (λ h. contains_in by_elements f (is.1 (error_moved parts other f refl refl h))),
      )

  rules_are : (f : Fault) → In by_rules f ↔ IsRuleFault g parts.delims parts.body given end f
  rules_are f =
      let is = rules_one g parts.delims parts.body end f in
      (λ i. is.0 (in_contains by_rules f i), λ h. contains_in by_rules f (is.1 h))

  -- a fault of a rule is dropped if an element fault has its key
  abbrev others : List Fault
  others = (without by_elements by_rules).0

  others_are : (f : Fault) → In others f ↔ (In by_rules f × (HasKeyIn by_elements f → ⊥))
  others_are f = (without by_elements by_rules).1 f

  abbrev all : List Fault
  all = by_nodes ++ (by_elements ++ others)

  no_key : (f : Fault) → (HasKeyIn by_elements f → ⊥) → HasKeyOfError g.nodes parts given f → ⊥
  no_key f none (e, is, key) = none (e, (elements_are e).1 is, key)

  no_key_in : (f : Fault) → (HasKeyOfError g.nodes parts given f → ⊥) → HasKeyIn by_elements f → ⊥
  no_key_in f none (e, i, key) = none (e, (elements_are e).0 i, key)

  either : (f : Fault) → In by_nodes f ⊎ In (by_elements ++ others) f → IsFaultUnder g parts given f
  either f (inl i) = inl ((nodes_are f).0 i)
  either f (inr i) = elim (in_cases by_elements others f i) [
    | inl j ↦ inr (inl ((elements_are f).0 j))
    | inr j ↦ (let o = (others_are f).0 j in inr (inr ((rules_are f).0 o.0, no_key f o.1)))
  ]

  to : (f : Fault) → In all f → IsFaultUnder g parts given f
  to f i = either f (in_cases by_nodes (by_elements ++ others) f i)

  from : (f : Fault) → IsFaultUnder g parts given f → In all f
  from f (inl h) = in_left by_nodes (by_elements ++ others) f ((nodes_are f).1 h)
  from f (inr (inl h)) =
      in_right by_nodes (by_elements ++ others) f (in_left by_elements others f ((elements_are f).1 h))
  from f (inr (inr h)) =
      in_right by_nodes (by_elements ++ others) f
      (in_right by_elements others f ((others_are f).1 ((rules_are f).1 h.0, no_key_in f h.1)))

  keyed : AreKeyed all
  keyed f h i j k = one_fault rows accepted parts f h (to f i) (to h j) k

  pub faults_are : AreSetFaults (Some g) parts (in_order all)
  faults_are f = (
    (λ c. to f (from_order all f (contains_in (in_order all) f c))),
    (λ h. in_contains (in_order all) f (into_order all keyed f (from f h))),
  )

pub set_faults : ErrorsAreOne → RuleFaultsAreOne → EachSetHasItsFaults
set_faults errors_one rules_one None parts accepted =
    ([], (λ f. (λ c. absurd (contains_in [] f c), λ h. absurd h)), rising [])
set_faults errors_one rules_one (Some rows) parts accepted =
    let fs : List Fault = all errors_one rules_one rows accepted parts in
    (in_order fs, faults_are errors_one rules_one rows accepted parts, rising fs)
