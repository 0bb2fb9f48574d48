-- Dependencies of ship notices and orders, worked: the faults, these and no others.
use Rattle.std.proofs.Common.{◌≡◌, ◌↔◌, ℕ, ◌+◌, List, [], ◌∷◌, codes, map, length, Some, None, false, refl, sym, subst}
use Rattle.std.specs.List.{Contains}
use Rattle.x12_bytes.specs.declared.delims.Delims.{Delims}
use Rattle.x12_segs.specs.Words.{parts}
use Rattle.hub_kinds.specs.declared.fault.Fault.{Fault}
use Rattle.hub_kinds.specs.declared.codes.ElementCode.{ElementCode}
use Rattle.hub_kinds.specs.declared.codes.ElementCode.TheVariants as ik403
use Rattle.hub_kinds.specs.declared.codes.SegmentCode.{SegmentCode}
use Rattle.hub_kinds.specs.declared.codes.SegmentCode.TheVariants as ik304
use Rattle.guide_tree.specs.declared.element.ElementType.TheVariants as type
use Rattle.guide_tree.specs.declared.element.Requirement.TheVariants as requirement
use Rattle.guide_tree.specs.declared.element.Element.{Element}
use Rattle.guide_tree.specs.declared.element.Element.TheVariants as element
use Rattle.guide_tree.specs.declared.slot.Slot.{Slot}
use Rattle.guide_tree.specs.declared.node.Loop.{Loop}
use Rattle.guide_tree.specs.declared.rows.Dependency.{Dependency}
use Rattle.guide_tree.specs.declared.rows.DependencyKind.{DependencyKind}
use Rattle.guide_tree.specs.declared.rows.DependencyKind.TheVariants as kind
use Rattle.guide_tree.specs.Words.{Trees, segment, loop, no_trees, tree, GuideTree, placing_of, Segment}
use Rattle.loop_match.specs.PlacedSegments.{PlacedSegment, placed_segments}
use Rattle.depend_check.specs.Dependencies.{IsDependencyFault}
use Rattle.depend_check.specs.Found.{found_faults}
use Rattle.depend_check.proofs.Members.{members}

abbrev simple : (reference : List ℕ) → Element
simple reference = element.Simple (record {
  reference = reference;
  requirement = requirement.Optional;
  data_type = type.Text;
  min = 1;
  max = 12;
  wide = false;
  codes = None;
}) 1

abbrev pub slot : (number : ℕ) → List ℕ → List Element → Slot
slot number id rows = record {
  number = number;
  id = id;
  label = Some id;
  min = 0;
  max = 9;
  picks = [];
  elements = rows;
  conditions = [];
}

abbrev repeated : (number : ℕ) → List ℕ → Loop
repeated number id = record { number = number; id = id; min = 0; max = 99 }

abbrev first_slot : (number : ℕ) → List ℕ → List Element → Slot
first_slot number id rows = record (slot number id rows) { min = 1; max = 1 }

abbrev pub man_rows : List Element
man_rows = simple (codes "88") ∷ simple (codes "87") ∷ []

-- BSN; loops HL, in each HL and up to nine MAN; up to nine REF after them
abbrev notice : Trees
notice = tree (segment (first_slot 1 (codes "BSN") [])) (tree (loop (repeated 2 (codes "HL"))
    (tree (segment (first_slot 3 (codes "HL") [])) (tree (segment (slot 4 (codes "MAN") man_rows)) no_trees)))
    (tree (segment (slot 5 (codes "REF") (simple (codes "128") ∷ []))) no_trees))

abbrev pub delims : Delims
delims = record { element = 42; component = 62; repetition = Some 94; terminator = 126 }

-- where HL03 is P
abbrev pub where_packed : DependencyKind → (target : List ℕ) → (element : ℕ) → Dependency
where_packed kind target element =
    record { kind = kind; slot = codes "HL"; at = 3; codes = codes "P" ∷ []; target = target; element = element }

abbrev guide : List Dependency → GuideTree
guide depends = record {
  head = record {
    name = codes "H";
    group = codes "SH";
    set = codes "856";
    version = codes "005010";
    convention = None;
    dictionary = [];
    tolerate_segment = [];
    tolerate_element = [];
  };
  hl = None;
  depends = depends;
  nodes = notice;
}

abbrev body_of : List (List ℕ) → List Segment
body_of texts = map (parts 42) (codes "BSN*00" ∷ texts)

-- a body of BSN and these texts has exactly these faults by a guide with these dependencies
record Shows (depends : List Dependency) (texts : List (List ℕ)) (faults : List Fault) : Type 0 where
  pub each : (f : Fault) → IsDependencyFault (guide depends) delims (body_of texts) (placing_of notice (body_of texts))
      (length texts + 3) f ↔ Contains faults f

abbrev placed : List (List ℕ) → List PlacedSegment
placed texts = placed_segments notice (body_of texts) (placing_of notice (body_of texts))

exactly : {depends : List Dependency} {texts : List (List ℕ)} {faults : List Fault}
    → found_faults notice delims (length texts + 3) (placed texts) depends ≡ faults → Shows depends texts faults
exactly {depends} {texts} {faults} e = record {
  each = λ f. let both = members notice delims (length texts + 3) (placed texts) depends f in (
    λ h. subst (λ (l : List Fault). Contains l f) e
        (both.1 (record { dependency = h.dependency; listed = h.listed; triggered = h.triggered; broken = h.broken })),
    λ h. let r = both.0 (subst (λ (l : List Fault). Contains l f) (sym e) h) in
        record { dependency = r.dependency; listed = r.listed; triggered = r.triggered; broken = r.broken },
  );
}

abbrev told : (position : ℕ) → List ℕ → SegmentCode → Fault
told position id code =
    record { position = position; id = id; loop_id = codes "HL"; code = code; slot = 4; elem = None }

abbrev told_on : (position element : ℕ) → ElementCode → (reference copy : List ℕ) → Fault
told_on position element code reference copy = record (told position (codes "MAN") ik304.ElementErrors) {
  elem = Some (record { element = element; component = 0; repetition = 0; code = code; reference = reference; copy = copy });
}

abbrev pub man : List ℕ
man = codes "MAN"

abbrev levels : List (List ℕ)
levels = codes "HL*1**S" ∷ codes "HL*2*1*O" ∷ codes "HL*3*2*P" ∷ []

-- MAN is needed where HL03 of one of three is P: at the end, in its loop; where one comes, or none is P, nothing is wrong
needed : Shows (where_packed kind.Need man 0 ∷ []) levels (told 6 man ik304.DependentMissing ∷ [])
needed = exactly refl

came : Shows (where_packed kind.Need man 0 ∷ [])
    (codes "HL*1**S" ∷ codes "MAN*GM*1" ∷ codes "HL*2*1*P" ∷ []) []
came = exactly refl

not_packed : Shows (where_packed kind.Need man 0 ∷ []) (codes "HL*1**S" ∷ codes "HL*P*1*O" ∷ []) []
not_packed = exactly refl

-- REF has the code, and isn't the slot that triggers
of_another_slot : Shows (where_packed kind.Need man 0 ∷ []) (codes "HL*1**S" ∷ codes "REF***P" ∷ []) []
of_another_slot = exactly refl

-- each use of a banned slot; none where it isn't triggered
banned : Shows (where_packed kind.Ban man 0 ∷ [])
    (codes "HL*1**S" ∷ codes "MAN*GM*1" ∷ codes "HL*2*1*P" ∷ codes "MAN*GM*2" ∷ [])
    (told 4 man ik304.DependentNotUsedPresent ∷ told 6 man ik304.DependentNotUsedPresent ∷ [])
banned = exactly refl

not_banned : Shows (where_packed kind.Ban man 0 ∷ []) (codes "HL*1**S" ∷ codes "MAN*GM*1" ∷ []) []
not_banned = exactly refl

-- MAN02 is needed on each use: one has it, one hasn't, and one of separators alone counts as empty
element_needed : Shows (where_packed kind.Need man 2 ∷ [])
    (codes "HL*1**P" ∷ codes "MAN*GM*1" ∷ codes "MAN*GM" ∷ codes "MAN*GM*>^" ∷ [])
    (told_on 5 2 ik403.DependentMissing (codes "87") [] ∷ told_on 6 2 ik403.DependentMissing (codes "87") [] ∷ [])
element_needed = exactly refl

-- MAN02 is banned on each use, and shown
element_banned : Shows (where_packed kind.Ban man 2 ∷ [])
    (codes "HL*1**P" ∷ codes "MAN*GM*1" ∷ codes "MAN*GM" ∷ codes "MAN*GM*>^" ∷ [])
    (told_on 4 2 ik403.DependentNotUsedPresent (codes "87") (codes "1") ∷ [])
element_banned = exactly refl
