-- Hierarchies of ship notices, worked: the faults, these and no others.
use Rattle.std.proofs.Common.{◌≡◌, ◌↔◌, ℕ, List, [], ◌∷◌, codes, map, length, Bool, true, false}
use Rattle.std.proofs.Common.{Option, Some, None, refl, sym, subst, arith}
use Rattle.std.specs.Fmt.{digits}
use Rattle.std.specs.List.{Contains}
use Rattle.x12_bytes.specs.declared.delims.Delims.{Delims}
use Rattle.x12_segs.specs.Words.{parts}
use Rattle.hub_kinds.specs.declared.fault.Fault.{Fault}
use Rattle.hub_kinds.specs.declared.codes.ElementCode.{ElementCode}
use Rattle.hub_kinds.specs.declared.codes.ElementCode.TheVariants as ik403
use Rattle.hub_kinds.specs.declared.codes.SegmentCode.TheVariants as ik304
use Rattle.guide_tree.specs.declared.element.ElementType.TheVariants as type
use Rattle.guide_tree.specs.declared.element.Requirement.TheVariants as requirement
use Rattle.guide_tree.specs.declared.element.Element.{Element}
use Rattle.guide_tree.specs.declared.element.Element.TheVariants as element
use Rattle.guide_tree.specs.declared.slot.Slot.{Slot}
use Rattle.guide_tree.specs.declared.node.Loop.{Loop}
use Rattle.guide_tree.specs.declared.rows.HlPair.{HlPair}
use Rattle.guide_tree.specs.declared.rows.HlRule.{HlRule}
use Rattle.guide_tree.specs.Words.{Trees, segment, loop, no_trees, tree, GuideTree, placing_of, Segment}
use Rattle.elem_rules.proofs.ForAbove.{no_member}
use Rattle.loop_match.specs.PlacedSegments.{PlacedSegment}
use Rattle.hl_check.specs.Hierarchy.{segments_of, hl_segments, hls_of, IsHierarchyFault, IsHierarchyWhole}
use Rattle.hl_check.specs.Found.{found_faults}
use Rattle.hl_check.proofs.Faulty.{members}
use Rattle.hl_check.proofs.Whole.{faultless_as_whole}

abbrev simple : (reference : List ℕ) → Element
simple reference = element.Simple (record {
  reference = reference;
  requirement = requirement.Optional;
  data_type = type.Text;
  min = 1;
  max = 12;
  wide = false;
  codes = None;
}) 1

abbrev slot : (number : ℕ) → List ℕ → List Element → Slot
slot number id rows = record {
  number = number;
  id = id;
  label = None;
  min = 1;
  max = 1;
  picks = [];
  elements = rows;
  conditions = [];
}

abbrev rows : List Element
rows = simple (codes "628") ∷ simple (codes "734") ∷ simple (codes "735") ∷ simple (codes "736") ∷ []

abbrev repeated : (number : ℕ) → List ℕ → Loop
repeated number id = record { number = number; id = id; min = 0; max = 99 }

-- BSN; loops HL, in each HL and MAN; CTT
abbrev notice : List Element → Trees
notice hl = tree (segment (slot 1 (codes "BSN") [])) (tree (loop (repeated 2 (codes "HL")) (tree (segment (slot 3 (codes "HL") hl))
    (tree (segment (slot 4 (codes "MAN") [])) no_trees))) (tree (segment (slot 5 (codes "CTT") [])) no_trees))

abbrev pair : Option (List ℕ) → List ℕ → HlPair
pair parent child = record { parent = parent; child = child }

abbrev rule : Bool → HlRule
rule sequential = record {
  pairs = pair None (codes "S") ∷ pair (Some (codes "S")) (codes "O") ∷ pair (Some (codes "O")) (codes "P")
      ∷ pair (Some (codes "O")) (codes "I") ∷ pair (Some (codes "P")) (codes "I") ∷ [];
  sequential = sequential;
}

abbrev delims : Delims
delims = record { element = 42; component = 62; repetition = Some 94; terminator = 126 }

abbrev guide : List Element → Option HlRule → GuideTree
guide hl rule = record {
  head = record {
    name = codes "H";
    group = codes "SH";
    set = codes "856";
    version = codes "005010";
    convention = None;
    dictionary = [];
    tolerate_segment = [];
    tolerate_element = [];
  };
  hl = rule;
  depends = [];
  nodes = notice hl;
}

abbrev body_of : List (List ℕ) → List Segment
body_of texts = map (parts 42) (codes "BSN*00" ∷ texts)

-- a body of BSN and these texts has exactly these faults by a guide with these rows of HL and this rule
record Shows (hl : List Element) (rule : Option HlRule) (texts : List (List ℕ)) (faults : List Fault) : Type 0 where
  pub each : (f : Fault)
      → IsHierarchyFault (guide hl rule) delims (body_of texts) (placing_of (notice hl) (body_of texts)) f ↔ Contains faults f

abbrev hls : List Element → List (List ℕ) → List PlacedSegment
hls hl texts = hls_of (notice hl) (body_of texts) (placing_of (notice hl) (body_of texts))

exactly : {hl : List Element} {r : HlRule} {texts : List (List ℕ)} {faults : List Fault}
    → found_faults r delims (hls hl texts) (length (hls hl texts)) ≡ faults → Shows hl (Some r) texts faults
exactly {hl} {r} {texts} {faults} e = record {
  each = λ f. let both = members r delims (hls hl texts) f in (
    λ h. subst (λ (l : List Fault). Contains l f) e (both.1 h),
    λ h. both.0 (subst (λ (l : List Fault). Contains l f) (sym e) h),
  );
}

abbrev told : (position element : ℕ) → ElementCode → (reference copy : List ℕ) → Fault
told position element code reference copy = record {
  position = position;
  id = codes "HL";
  loop_id = codes "HL";
  code = ik304.ElementErrors;
  slot = 3;
  elem = Some (record { element = element; component = 0; repetition = 0; code = code; reference = reference; copy = copy });
}

abbrev wrong_number : ℕ → List ℕ → Fault
wrong_number position copy = told position 1 ik403.PatternFailure (codes "628") copy

abbrev wrong_parent : ℕ → List ℕ → Fault
wrong_parent position copy = told position 2 ik403.PatternFailure (codes "734") copy

abbrev wrong_level : ℕ → List ℕ → Fault
wrong_level position copy = told position 3 ik403.CodeNotUsed (codes "735") copy

abbrev wrong_child : ℕ → List ℕ → Fault
wrong_child position copy = told position 4 ik403.PatternFailure (codes "736") copy

-- a hierarchy in which nothing is wrong, and a set without HL
clean : Shows rows (Some (rule true))
    (codes "HL*1**S*1" ∷ codes "HL*2*1*O*1" ∷ codes "HL*3*2*P*0" ∷ codes "HL*4*2*P" ∷ codes "HL*5**S*0" ∷ [])
    []
unfolding digits
clean = exactly refl

without : Shows rows (Some (rule true)) [] []
without = exactly refl

-- children that come unannounced, a parent that isn't there, a level that isn't listed below its parent's
one_each : Shows rows (Some (rule true)) (codes "HL*1**S*0" ∷ codes "HL*2*3*O" ∷ codes "HL*3*1*I" ∷ [])
    (wrong_parent 4 (codes "3") ∷ wrong_level 5 (codes "I") ∷ wrong_child 3 (codes "0") ∷ [])
unfolding digits
one_each = exactly refl

-- children that are announced and don't come, and that come unannounced; one after another that has the number; to an HL in front none
-- comes
untold : Shows rows (Some (rule false)) (codes "HL*1**S*1" ∷ codes "HL*2*1*O*1" ∷ codes "HL*3*1*O*0" ∷ [])
    (wrong_child 4 (codes "1") ∷ [])
untold = exactly refl

earlier_child : Shows rows (Some (rule false)) (codes "HL*2*1*O*0" ∷ codes "HL*1**S*1" ∷ [])
    (wrong_parent 3 (codes "1") ∷ wrong_child 4 (codes "1") ∷ [])
earlier_child = exactly refl

earlier_child_is_none : Shows rows (Some (rule false)) (codes "HL*2*1*O*0" ∷ codes "HL*1**S*0" ∷ []) (wrong_parent 3 (codes "1") ∷ [])
earlier_child_is_none = exactly refl

-- a parent that is named twice; one number twice: the level is the first one's, and both have the child
twice_named : Shows rows (Some (rule false)) (codes "HL*1**S*1" ∷ codes "HL*2*1*O" ∷ codes "HL*3*1*O" ∷ []) []
twice_named = exactly refl

twice_there : Shows rows (Some (rule false)) (codes "HL*1**S*1" ∷ codes "HL*2*1*O*1" ∷ codes "HL*2*2*P*1" ∷ codes "HL*3*2*P*0" ∷ [])
    (wrong_number 5 (codes "2") ∷ [])
twice_there = exactly refl

second_level : Shows rows (Some (rule false)) (codes "HL*1**S*1" ∷ codes "HL*2*1*O*1" ∷ codes "HL*2*2*P*0" ∷ codes "HL*3*2*S*0" ∷ [])
    (wrong_number 5 (codes "2") ∷ wrong_level 6 (codes "S") ∷ wrong_child 5 (codes "0") ∷ [])
second_level = exactly refl

-- the count: without leading zeros, over HLs alone, from 1; not asked of an empty number, nor where the guide doesn't ask
counted : Shows rows (Some (rule true)) (codes "HL*01**S" ∷ codes "HL*2*01*O" ∷ codes "MAN*A" ∷ codes "HL**2*P" ∷ codes "HL*5*2*P" ∷ [])
    (wrong_number 3 (codes "01") ∷ wrong_number 7 (codes "5") ∷ [])
unfolding digits
counted = exactly refl

uncounted : Shows rows (Some (rule false)) (codes "HL*01**S" ∷ codes "HL*2*01*O" ∷ codes "HL**2*P" ∷ codes "HL*7*2*P" ∷ []) []
uncounted = exactly refl

-- once for both reasons
repeated_and_uncounted : Shows rows (Some (rule true)) (codes "HL*1**S" ∷ codes "HL*1*1*O" ∷ []) (wrong_number 4 (codes "1") ∷ [])
unfolding digits
repeated_and_uncounted = exactly refl

-- a root's pair isn't a child's, nor a child's a root's; where HL02 names none the level isn't judged
root_as_child : Shows rows (Some (rule false)) (codes "HL*1**S" ∷ codes "HL*2*1*S" ∷ codes "HL*3**O" ∷ codes "HL*4*9*X" ∷ [])
    (wrong_level 4 (codes "S") ∷ wrong_level 5 (codes "O") ∷ wrong_parent 6 (codes "9") ∷ [])
root_as_child = exactly refl

-- an empty level is listed nowhere, nor is one below it
empty_level : Shows rows (Some (rule false)) (codes "HL*1" ∷ codes "HL*2*1*O" ∷ []) (wrong_level 3 [] ∷ wrong_level 4 (codes "O") ∷ [])
empty_level = exactly refl

-- separators alone are empty: no number that comes twice, no parent, no child; after other bytes they are bytes as any
separators : Shows rows (Some (rule true)) (codes "HL*>^**S*1" ∷ codes "HL*>^*>*S" ∷ codes "HL*3*>^*S*0" ∷ [])
    (wrong_child 3 (codes "1") ∷ [])
unfolding digits
separators = exactly refl

trailing : Shows rows (Some (rule false)) (codes "HL*1>**S>" ∷ codes "HL*1*1>*O*0>" ∷ codes "HL*2*1*P*1>" ∷ codes "HL*1>*2*S" ∷ [])
    (wrong_level 3 (codes "S>") ∷ wrong_level 4 (codes "O") ∷ wrong_number 6 (codes "1>") ∷ wrong_level 6 (codes "S") ∷ [])
trailing = exactly refl

-- elements for which the slot has no row have no reference number
two_rows : Shows (simple (codes "628") ∷ simple (codes "734") ∷ []) (Some (rule false)) (codes "HL*1*2*S" ∷ codes "HL*1**P*1" ∷ [])
    (wrong_parent 3 (codes "2") ∷ wrong_number 4 (codes "1") ∷ told 4 3 ik403.CodeNotUsed [] (codes "P")
    ∷ told 4 4 ik403.PatternFailure [] (codes "1") ∷ [])
two_rows = exactly refl

-- an HL without a place isn't one of them
stray : Shows rows (Some (rule true)) (codes "HL*1**S*1" ∷ codes "CTT" ∷ codes "HL*2*1*O" ∷ []) (wrong_child 3 (codes "1") ∷ [])
unfolding digits
stray = exactly refl

-- without a rule nothing is wrong
unruled : Shows rows None (codes "HL*1*2*X*1" ∷ codes "HL*1**X*1" ∷ []) []
unruled = record { each = λ f. (λ h. absurd h, λ h. no_member f h) }

-- nothing is wrong with the HL segments of BSN and these texts
record Holds (sequential : Bool) (texts : List (List ℕ)) : Type 0 where
  pub whole : IsHierarchyWhole (Some (rule sequential)) delims (hl_segments (body_of texts))

record Breaks (sequential : Bool) (texts : List (List ℕ)) : Type 0 where
  pub broken : IsHierarchyWhole (Some (rule sequential)) delims (hl_segments (body_of texts)) → ⊥

abbrev found_in : (sequential : Bool) → List (List ℕ) → List Fault
found_in sequential texts = found_faults (rule sequential) delims (hls rows texts) (length (hls rows texts))

holds : {sequential : Bool} {texts : List (List ℕ)} → found_in sequential texts ≡ []
    → segments_of (hls rows texts) ≡ hl_segments (body_of texts) → Holds sequential texts
holds {sequential} {texts} none same = record {
  whole = subst (IsHierarchyWhole (Some (rule sequential)) delims) same
      ((faultless_as_whole (Some (rule sequential)) delims (hls rows texts)).0
      (λ f h. no_member f (subst (λ (l : List Fault). Contains l f) none ((members (rule sequential) delims (hls rows texts) f).1 h))));
}

breaks : {sequential : Bool} {texts : List (List ℕ)} (f : Fault) (more : List Fault) → found_in sequential texts ≡ f ∷ more
    → segments_of (hls rows texts) ≡ hl_segments (body_of texts) → Breaks sequential texts
breaks {sequential} {texts} f more found same = record {
  broken = λ whole. (faultless_as_whole (Some (rule sequential)) delims (hls rows texts)).1
      (subst (IsHierarchyWhole (Some (rule sequential)) delims) (sym same) whole) f
      ((members (rule sequential) delims (hls rows texts) f).0
      (subst (λ (l : List Fault). Contains l f) (sym found) (0, omega arith, refl)));
}

-- a hierarchy of five HLs, one of none, and one whose count isn't asked for
five_hold : Holds true (codes "HL*1**S*1" ∷ codes "HL*2*1*O*1" ∷ codes "HL*3*2*P*0" ∷ codes "HL*4*2*P" ∷ codes "HL*5**S*0" ∷ [])
unfolding digits
five_hold = holds refl refl

none_hold : Holds true (codes "MAN*A" ∷ codes "CTT" ∷ [])
none_hold = holds refl refl

uncounted_hold : Holds false (codes "HL*01**S" ∷ codes "MAN*A" ∷ codes "HL*2*01*O" ∷ [])
uncounted_hold = holds refl refl

-- broken by each of the four: a number out of count or that comes twice, a parent that comes later, a level, children
count_breaks : Breaks true (codes "HL*01**S" ∷ codes "MAN*A" ∷ codes "HL*2*01*O" ∷ [])
unfolding digits
count_breaks = breaks (wrong_number 3 (codes "01")) [] refl refl

twice_breaks : Breaks false (codes "HL*1**S" ∷ codes "HL*1*1*O" ∷ [])
twice_breaks = breaks (wrong_number 4 (codes "1")) [] refl refl

parent_breaks : Breaks false (codes "HL*2*1*O" ∷ codes "HL*1**S" ∷ [])
parent_breaks = breaks (wrong_parent 3 (codes "1")) [] refl refl

level_breaks : Breaks false (codes "HL*1**S" ∷ codes "HL*2*1*P" ∷ [])
level_breaks = breaks (wrong_level 4 (codes "P")) [] refl refl

child_breaks : Breaks false (codes "HL*1**S*0" ∷ codes "HL*2*1*O" ∷ [])
child_breaks = breaks (wrong_child 3 (codes "0")) [] refl refl

childless_breaks : Breaks false (codes "HL*1**S*1" ∷ codes "HL*2**S" ∷ [])
childless_breaks = breaks (wrong_child 3 (codes "1")) [] refl refl

-- without a rule nothing is asked
unruled_holds : IsHierarchyWhole None delims (hl_segments (body_of (codes "HL*1*2*X*1" ∷ codes "HL*1**X*1" ∷ [])))
unruled_holds = tt
