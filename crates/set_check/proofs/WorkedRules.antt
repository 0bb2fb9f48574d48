-- Sets of a small notice with a hierarchy and a dependency, worked: which faults stand, and which sets meet the guide.
use Rattle.std.proofs.Common.{◌≡◌, ℕ, zero, suc, ◌++◌, List, [], ◌∷◌, codes, map, true, false, Option, Some, None, refl, inl, inr}
use Rattle.std.proofs.Common.{sym, subst, ap, option_map, IsTrue}
use Rattle.std.specs.List.{list_any}
use Rattle.std.proofs.lemmas.Bool.{false≢true}
use Rattle.x12_bytes.specs.declared.delims.Delims.{Delims}
use Rattle.x12_segs.specs.Words.{SegValue}
use Rattle.hub_kinds.specs.declared.fault.ElemFault.{ElemFault}
use Rattle.hub_kinds.specs.declared.fault.Fault.{Fault}
use Rattle.hub_kinds.specs.declared.codes.ElementCode.{ElementCode}
use Rattle.hub_kinds.specs.declared.codes.ElementCode.TheVariants as ik403
use Rattle.hub_kinds.specs.declared.codes.SegmentCode.TheVariants as ik304
use Rattle.guide_tree.specs.declared.element.ElementType.TheVariants as type
use Rattle.guide_tree.specs.declared.element.Requirement.TheVariants as requirement
use Rattle.guide_tree.specs.declared.element.CodeList.{CodeList}
use Rattle.guide_tree.specs.declared.element.Element.{Element}
use Rattle.guide_tree.specs.declared.element.Element.TheVariants as element
use Rattle.guide_tree.specs.declared.slot.Slot.{Slot}
use Rattle.guide_tree.specs.declared.rows.Dependency.{Dependency}
use Rattle.guide_tree.specs.declared.rows.DependencyKind.TheVariants as kind
use Rattle.guide_tree.specs.declared.rows.HlRule.{HlRule}
use Rattle.guide_tree.specs.Words.{segment, no_trees, tree, GuideTree, Given, placing_of, slot_given, Segment, IsWellFormed}
use Rattle.guide_tree.proofs.ForAbove.{In, accepted}
use Rattle.elem_rules.proofs.ForAbove.{contains_one, one_contains}
use Rattle.hl_check.specs.Hierarchy.{IsHierarchyWhole, IsHlWhole, hl_segments}
use Rattle.hl_check.proofs.ForAbove.{hierarchy_whole}
use Rattle.depend_check.specs.Kept.{AreDependenciesKept, IsTargetKept}
use Rattle.depend_check.specs.Standing.{triggers}
use Rattle.depend_check.proofs.ForAbove.{dependencies_kept}
use Rattle.set_check.specs.SetParts.{SetParts, parts_of, end_position}
use Rattle.set_check.specs.SetFaults.{IsSetFault, IsErrorIn}
use Rattle.set_check.specs.Meets.{MeetsAlone}
use Rattle.set_check.proofs.Told.{IsOfRules, meets_by, fails_by, fault_of_rules, in_errors, in_structure}

abbrev row : (reference : List ℕ) → Option CodeList → Element
row reference listed = element.Simple (record {
  reference = reference;
  requirement = requirement.Optional;
  data_type = type.Text;
  min = 1;
  max = 3;
  wide = false;
  codes = listed;
}) 1

abbrev slot : (number : ℕ) → List ℕ → List Element → Slot
slot number id rows = record {
  number = number;
  id = id;
  label = Some id;
  min = 0;
  max = 9;
  picks = [];
  elements = rows;
  conditions = [];
}

-- HL, of whose levels P isn't used
abbrev hl : Slot
hl = slot 1 (codes "HL") (row (codes "628") None ∷ row (codes "734") None
    ∷ row (codes "735") (Some (record { used = codes "S" ∷ codes "O" ∷ []; unused = Some (codes "P" ∷ []) }))
    ∷ row (codes "736") None ∷ [])

abbrev td : Slot
td = slot 2 (codes "TD1") (row (codes "103") None ∷ [])

-- where some level is O, TD1 is needed
abbrev need : Dependency
need = record { kind = kind.Need; slot = codes "HL"; at = 3; codes = codes "O" ∷ []; target = codes "TD1"; element = 0 }

abbrev rule : HlRule
rule = record {
  pairs = record { parent = None; child = codes "S" } ∷ record { parent = Some (codes "S"); child = codes "O" } ∷ [];
  sequential = false;
}

abbrev guide : GuideTree
guide = record {
  head = record {
    name = codes "H";
    group = codes "SH";
    set = codes "856";
    version = codes "005010";
    convention = None;
    dictionary = [];
    tolerate_segment = [];
    tolerate_element = [];
  };
  hl = Some rule;
  depends = need ∷ [];
  nodes = tree (segment hl) (tree (segment td) no_trees);
}

sound : IsWellFormed guide
sound = accepted guide refl refl

abbrev delims : Delims
delims = record { element = 42; component = 62; repetition = None; terminator = 126 }

abbrev seg : List ℕ → SegValue
seg bytes = record { start = 0; bytes = bytes; delims = delims }

-- a set with these texts between its ST and an SE of this count
abbrev set : List (List ℕ) → List ℕ → SetParts
set texts count = parts_of delims true (map seg (codes "ST*856*0001" ∷ (texts ++ (codes "SE*" ++ count ++ codes "*0001") ∷ [])))

-- the faults of rules are none where, by these slots, the hierarchy is whole and the dependencies are kept
none_by : (parts : SetParts) (xs : List Given) → map (λ (x : Given). x.0) xs ≡ parts.body
    → map (slot_given guide.nodes) (placing_of guide.nodes parts.body) ≡ map (λ (x : Given). Some x.1) xs
    → IsHierarchyWhole guide.hl parts.delims (hl_segments parts.body) → AreDependenciesKept guide.depends parts.delims xs
    → (f : Fault) → IsOfRules guide parts f → ⊥
none_by parts xs are led whole kept f (inl h) =
    (hierarchy_whole guide parts.delims xs parts.body (placing_of guide.nodes parts.body) are led).1 whole f h
none_by parts xs are led whole kept f (inr h) =
    (dependencies_kept guide parts.delims xs parts.body (placing_of guide.nodes parts.body) (end_position parts) sound are led).1 kept f h

abbrev of_need : List Given → Dependency → Type 0
of_need xs d = IsTrue (list_any (triggers d) xs) → IsTargetKept delims xs d.target d.kind d.element

only_need : (xs : List Given) → of_need xs need → AreDependenciesKept (need ∷ []) delims xs
only_need xs h d c = subst (of_need xs) (sym (contains_one need d c)) h

-- an order below a shipment, and what it needs
abbrev whole : SetParts
whole = set (codes "HL*1**S" ∷ codes "HL*2*1*O" ∷ codes "TD1*X" ∷ []) (codes "5")

abbrev root : Segment
root = codes "HL" ∷ codes "1" ∷ [] ∷ codes "S" ∷ []

abbrev below : Segment
below = codes "HL" ∷ codes "2" ∷ codes "1" ∷ codes "O" ∷ []

whole_hierarchy : IsHierarchyWhole (Some rule) delims (root ∷ below ∷ [])
whole_hierarchy zero h e =
    let k : root ≡ h = cc in subst (λ (s : Segment). IsHlWhole rule delims [] s (below ∷ [])) k (refl, refl, refl, refl)
whole_hierarchy (suc zero) h e =
    let k : below ≡ h = cc in subst (λ (s : Segment). IsHlWhole rule delims (root ∷ []) s []) k (refl, refl, refl, refl)
whole_hierarchy (suc (suc n)) h e = let k : None ≡ Some h = e in cc

abbrev slots : List Given
slots = (root, hl) ∷ (below, hl) ∷ (codes "TD1" ∷ codes "X" ∷ [], td) ∷ []

meets : MeetsAlone (Some guide) whole
meets = meets_by guide whole sound (none_by whole slots refl refl whole_hierarchy (only_need slots (λ t. refl))) refl refl

-- a dependency that isn't triggered asks nothing
abbrev untriggered : SetParts
untriggered = set (codes "HL*1**S" ∷ []) (codes "3")

root_alone : IsHierarchyWhole (Some rule) delims (root ∷ [])
root_alone zero h e = let k : root ≡ h = cc in subst (λ (s : Segment). IsHlWhole rule delims [] s []) k (refl, refl, refl, refl)
root_alone (suc n) h e = let k : None ≡ Some h = e in cc

meets_untriggered : MeetsAlone (Some guide) untriggered
meets_untriggered =
    meets_by guide untriggered sound
    (none_by untriggered ((root, hl) ∷ []) refl refl root_alone (only_need ((root, hl) ∷ []) (λ t. absurd (false≢true t)))) refl refl

abbrev told : (position element : ℕ) → ElementCode → (reference copy : List ℕ) → Fault
told position element code reference copy = record {
  position = position;
  id = codes "HL";
  loop_id = [];
  code = ik304.ElementErrors;
  slot = 1;
  elem = Some (record { element = element; component = 0; repetition = 0; code = code; reference = reference; copy = copy });
}

-- a parent that isn't there
abbrev orphaned : SetParts
orphaned = set (codes "HL*1**S" ∷ codes "HL*2*9*O" ∷ codes "TD1*X" ∷ []) (codes "5")

orphan : IsSetFault (Some guide) orphaned (told 3 2 ik403.PatternFailure (codes "734") (codes "9"))
orphan = fault_of_rules guide orphaned _ sound refl (inl (record { count = 1; hl = _; there = refl; wrong = inr (inl (refl, refl)) }))

fails_by_hierarchy : MeetsAlone (Some guide) orphaned → ⊥
fails_by_hierarchy = fails_by guide orphaned _ sound orphan

-- what is needed isn't there, which shows at SE
abbrev unkept : SetParts
unkept = set (codes "HL*1**S" ∷ codes "HL*2*1*O" ∷ []) (codes "4")

lacking : IsSetFault (Some guide) unkept
    (record { position = 4; id = codes "TD1"; loop_id = []; code = ik304.DependentMissing; slot = 2; elem = None })
lacking = fault_of_rules guide unkept _ sound refl
    (inr (record { dependency = need; listed = one_contains need; triggered = refl; broken = (_, refl, refl, refl) }))

fails_by_dependency : MeetsAlone (Some guide) unkept → ⊥
fails_by_dependency = fails_by guide unkept _ sound lacking

-- a level that isn't used and is no root's: the element's fault and the hierarchy's have one key and other copies, and the element's stands
abbrev twice_wrong : SetParts
twice_wrong = set (codes "HL*1**P>" ∷ []) (codes "3")

abbrev of_element : Fault
of_element = told 2 3 ik403.CodeNotUsed (codes "735") (codes "P")

abbrev of_hierarchy : Fault
of_hierarchy = told 2 3 ik403.CodeNotUsed (codes "735") (codes "P>")

both_found : IsOfRules guide twice_wrong of_hierarchy
both_found = inl (record { count = 0; hl = _; there = refl; wrong = inr (inr (inl (refl, refl))) })

element_at_fault : IsErrorIn guide.nodes twice_wrong (placing_of guide.nodes twice_wrong.body) of_element
element_at_fault = (in_errors guide twice_wrong sound of_element).0 (inl refl)

element_stands : IsSetFault (Some guide) twice_wrong of_element
element_stands = inr (inl element_at_fault)

hierarchy_gives_way : IsSetFault (Some guide) twice_wrong of_hierarchy → ⊥
hierarchy_gives_way (inl s) = (in_structure guide twice_wrong sound of_hierarchy).1 s
hierarchy_gives_way (inr (inl e)) =
    other ((in_errors guide twice_wrong sound of_hierarchy).1 e) where
      other : In (of_element ∷ []) of_hierarchy → ⊥
      other (inl k) =
          let no : Some (codes "P") ≡ Some (codes "P>") = ap (λ (f : Fault). option_map (λ (e : ElemFault). e.copy) f.elem) k in cc
      other (inr k) = k
hierarchy_gives_way (inr (inr r)) = r.1 (of_element, element_at_fault, refl)
