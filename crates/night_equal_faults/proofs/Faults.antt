-- The faults of a set are one list.
use Rattle.std.proofs.Common.{◌≡◌, ◌↔◌, inl, inr, ℕ, ◌+◌, List, [], ◌∷◌, ◌++◌, Option, Some, None, refl, sym, ap, ◌∙◌, subst}
use Rattle.std.specs.Prelude.{fold, length}
use Rattle.std.specs.List.{Contains}
use Rattle.std.specs.Cmp.Lexicographic.{slice_cmp}
use Rattle.std.specs.Ordering.{nat_cmp}
use Rattle.std.specs.declared.cmp.Ordering.TheVariants.{Equal}
use Rattle.std.proofs.lemmas.Cmp.{nat_list_cmp_total, tied_itself}
use Rattle.std.proofs.lemmas.List.{append_assoc, length-map}
use Rattle.std.proofs.lemmas.List.Elements.{Contains-append_left, Contains-append_right, Contains-append_cases}
use Rattle.std.proofs.lemmas.Map.Lookups.{exact_bytes}
use Rattle.x12_bytes.specs.declared.delims.Delims.{Delims}
use Rattle.hub_kinds.specs.declared.fault.Fault.{Fault}
use Rattle.hub_kinds.specs.Words.{AreRising, order_by}
use Rattle.hub_kinds.specs.Words as old
use Rattle.guide_tree.specs.Tree.{GuideTree}
use Rattle.guide_tree.specs.Words.{IsWellFormed, Place, placing_of, IsStructureFault}
use Rattle.guide_law.proofs.ForAbove.{in_contains, contains_in}
use Rattle.set_walk.proofs.ForAbove.{sound_places}
use Rattle.set_check.specs.SetParts.{SetParts, end_position}
use Rattle.set_check.specs.SetFaults.{AreSetFaults, IsErrorIn, IsRuleFault, IsFaultUnder, HasKeyOfError}
use Rattle.night_definition.specs.Segments.{Segment}
use Rattle.night_definition.specs.Envelopes.{Set}
use Rattle.night_definition.specs.Places.{Placed, placing, uses}
use Rattle.night_definition.specs.Structure.{structure_faults}
use Rattle.night_definition.specs.Rules.{hierarchy_faults, dependency_faults}
use Rattle.night_definition.specs.Codes as room
use Rattle.night_definition.specs.Sets.{body_of, end_of, with_fault, faults_by}
use Rattle.night_equal_set.specs.Parts.{IsThatSet}
use Rattle.night_equal_set.specs.Errors.{errors, HasConditions, ErrorsAreOne}
use Rattle.night_equal_set.specs.RuleFaults.{RuleFaultsAreOne}
use Rattle.night_equal_set.specs.Order.{IsPlain, IsFirstBehind, OrdersAreOne, FaultsRise, FirstsStand}
use Rattle.night_equal_set.proofs.ForAbove.{keeps}
use Rattle.night_equal_structure.specs.Structures.{StructuresAreOne}
use Rattle.night_equal_faults.specs.Faults.{FaultsAreOne}
use Rattle.night_equal_faults.proofs.Rising.{all_of, one_of_key, same_rising}
use Rattle.night_equal_faults.proofs.Plain.{structure_plain, error_plain, rule_plain}
use Rattle.night_equal_faults.proofs.Firsts.{first_is_there, first_is_alone, first_of_two}

tied : (x y : List ℕ) → x ≡ y → slice_cmp nat_cmp x y ≡ Equal
tied x y e = ap (λ k. slice_cmp nat_cmp k y) e ∙ tied_itself nat_list_cmp_total y

module _ (orders : OrdersAreOne) (x y : Fault) (is : IsPlain x) (too : IsPlain y) where
  old_key : room.key_of x ≡ room.key_of y → old.key_of x ≡ old.key_of y
  old_key e = exact_bytes (old.key_of x) (old.key_of y) (sym (orders x y is too) ∙ tied (room.key_of x) (room.key_of y) e)

  room_key : old.key_of x ≡ old.key_of y → room.key_of x ≡ room.key_of y
  room_key e = exact_bytes (room.key_of x) (room.key_of y) (orders x y is too ∙ tied (old.key_of x) (old.key_of y) e)

-- what is known of the parts of a set's faults
record Laws : Type 0 where
  structures : StructuresAreOne
  errors_one : ErrorsAreOne
  rules : RuleFaultsAreOne
  orders : OrdersAreOne
  firsts : FirstsStand
  rise : FaultsRise

module _ (laws : Laws) (g : GuideTree) (d : Delims) (set : Set) (parts : SetParts) (is : IsThatSet d set parts)
    (accepted : IsWellFormed g) where
  abbrev given : List (Option Place)
  given = placing_of g.nodes parts.body

  abbrev placed : List Placed
  placed = placing g.nodes None 2 (body_of set)

  abbrev by_nodes : List Fault
  by_nodes = structure_faults g placed (end_of set)

  abbrev by_elements : List Fault
  by_elements = errors g d (body_of set)

  abbrev by_rules : List Fault
  by_rules = hierarchy_faults g d (uses placed) ++ dependency_faults g d (end_of set) (uses placed)

  abbrev all : List Fault
  all = (by_nodes ++ by_elements) ++ by_rules

  all_is : faults_by g d set ≡ fold with_fault [] all
  all_is =
      ap (fold with_fault []) (append_assoc (by_nodes ++ by_elements) (hierarchy_faults g d (uses placed))
      (dependency_faults g d (end_of set) (uses placed)))

  end_is : end_of set ≡ end_position parts
  end_is = ap (λ n. n + 2) (sym (length-map set.inner (λ (s : Segment). s.elements))) ∙ ap (λ b. length b + 2) (sym is.body)

  conditioned : HasConditions g
  conditioned q slot leads = (sound_places g accepted q slot leads).conditioned

  abbrev IsUnder : Fault → Type 0
  IsUnder f = IsStructureFault g parts.body given (end_position parts) f

  structure_is : (f : Fault) → Contains by_nodes f ↔ IsUnder f
  structure_is f =
      subst (λ n. Contains by_nodes f ↔ IsStructureFault g parts.body given n f) end_is
      (subst (λ b. Contains by_nodes f ↔ IsStructureFault g b (placing_of g.nodes b) (end_of set) f) (sym is.body)
      (laws.structures g (body_of set) (end_of set) f accepted))

  error_is : (f : Fault) → Contains by_elements f ↔ IsErrorIn g.nodes parts given f
  error_is f = laws.errors_one g d set parts f is conditioned

  rule_is : (f : Fault) → Contains by_rules f ↔ IsRuleFault g parts.delims parts.body given (end_position parts) f
  rule_is f =
      subst (λ e. Contains by_rules f ↔ IsRuleFault g e parts.body given (end_position parts) f) (sym is.delims)
      (subst (λ n. Contains by_rules f ↔ IsRuleFault g d parts.body given n f) end_is
      (subst (λ b. Contains by_rules f ↔ IsRuleFault g d b (placing_of g.nodes b) (end_of set) f) (sym is.body)
      (laws.rules g d (body_of set) (end_of set) f)))

  plain_node : (f : Fault) → Contains by_nodes f → IsPlain f
  plain_node f c = structure_plain g parts.body given (end_position parts) f ((structure_is f).0 c)

  plain_element : (f : Fault) → Contains by_elements f → IsPlain f
  plain_element f c = error_plain g parts given f accepted ((error_is f).0 c)

  plain_rule : (f : Fault) → Contains by_rules f → IsPlain f
  plain_rule f c = rule_plain g parts.delims parts.body given (end_position parts) f ((rule_is f).0 c)

  plain_before : (f : Fault) → Contains (by_nodes ++ by_elements) f → IsPlain f
  plain_before f c = elim (Contains-append_cases by_nodes by_elements f c) [ inl a ↦ plain_node f a | inr a ↦ plain_element f a ]

  plain : (f : Fault) → Contains all f → IsPlain f
  plain f c = elim (Contains-append_cases (by_nodes ++ by_elements) by_rules f c) [
    | inl a ↦ plain_before f a
    | inr a ↦ plain_rule f a
  ]

  -- a fault of the rules that is the first of its key is not of an element fault's key
  alone : (f : Fault) → IsFirstBehind (by_nodes ++ by_elements) by_rules f → HasKeyOfError g.nodes parts given f → ⊥
  alone f first h =
      let there = (error_is h.0).1 h.1 in
      first_is_alone (by_nodes ++ by_elements) by_rules f first h.0 (Contains-append_right by_nodes by_elements h.0 there)
      (room_key laws.orders h.0 f (plain_element h.0 there) (plain_rule f (first_is_there (by_nodes ++ by_elements) by_rules f first)) h.2)

  to : (f : Fault) → Contains (fold with_fault [] all) f → IsFaultUnder g parts given f
  to f c = elim (first_of_two [] (by_nodes ++ by_elements) by_rules f ((laws.firsts all f).0 c)) [
    | inl h ↦ elim (Contains-append_cases by_nodes by_elements f (first_is_there [] (by_nodes ++ by_elements) f h)) [
      | inl a ↦ inl ((structure_is f).0 a)
      | inr a ↦ inr (inl ((error_is f).0 a))
    ]
    | inr h ↦ inr (inr ((rule_is f).0 (first_is_there (by_nodes ++ by_elements) by_rules f h), alone f h))
  ]

  among : (f : Fault) → IsFaultUnder g parts given f → Contains all f
  among f (inl h) =
      Contains-append_left (by_nodes ++ by_elements) by_rules f (Contains-append_left by_nodes by_elements f ((structure_is f).1 h))
  among f (inr (inl h)) =
      Contains-append_left (by_nodes ++ by_elements) by_rules f (Contains-append_right by_nodes by_elements f ((error_is f).1 h))
  among f (inr (inr h)) = Contains-append_right (by_nodes ++ by_elements) by_rules f ((rule_is f).1 h.0)

  module _ (faults : List Fault) (are : AreSetFaults (Some g) parts faults) (up : AreRising faults) where
    -- today's faults rise, so that of one key there is one, which the definition keeps
    from : (f : Fault) → IsFaultUnder g parts given f → Contains (fold with_fault [] all) f
    from f h =
        let c = among f h in
        let w = keeps all f c in
        let there = to w.0 w.1 in
        let same : w.0 ≡ f =
        one_of_key faults w.0 f up ((are w.0).1 there) ((are f).1 h)
        (old_key laws.orders w.0 f (plain w.0 (among w.0 there)) (plain f c) w.2) in
        subst (λ z. Contains (fold with_fault [] all) z) same w.1

    rises : AreRising (fold with_fault [] all)
    rises = laws.rise all (all_of IsPlain all (λ f h. plain f (in_contains all f h)))

    by_is : faults_by g d set ≡ faults
    by_is =
        all_is
        ∙ same_rising (fold with_fault [] all) faults rises up
        (λ f h. contains_in faults f ((are f).1 (to f (in_contains (fold with_fault [] all) f h))))
        (λ f h. contains_in (fold with_fault [] all) f (from f ((are f).0 (in_contains faults f h))))

nothing : (faults : List Fault) → ((f : Fault) → Contains faults f → ⊥) → [] ≡ faults
nothing [] empty = refl
nothing (f ∷ fs) empty = absurd (empty f (in_contains (f ∷ fs) f (inl refl)))

pub faults : StructuresAreOne → ErrorsAreOne → RuleFaultsAreOne → OrdersAreOne → FirstsStand → FaultsRise → FaultsAreOne
faults structures errors_one rules orders firsts rise None d set parts fs is well are up = nothing fs (λ f c. (are f).0 c)
faults structures errors_one rules orders firsts rise (Some g) d set parts fs is well are up =
    let laws : Laws = record {
      structures = structures;
      errors_one = errors_one;
      rules = rules;
      orders = orders;
      firsts = firsts;
      rise = rise;
    } in
    by_is laws g d set parts is well fs are up
