-- Sets of a small order, worked: the faults, these and no others, and which sets meet the guide.
use Rattle.std.proofs.Common.{◌≡◌, ℕ, ◌++◌, List, [], ◌∷◌, codes, map, Bool, true, false, Some, None, refl}
use Rattle.hub_kinds.specs.declared.fault.Fault.{Fault}
use Rattle.hub_kinds.specs.declared.codes.ElementCode.{ElementCode}
use Rattle.hub_kinds.specs.declared.codes.ElementCode.TheVariants as ik403
use Rattle.hub_kinds.specs.declared.codes.SegmentCode.{SegmentCode}
use Rattle.hub_kinds.specs.declared.codes.SegmentCode.TheVariants as ik304
use Rattle.x12_bytes.specs.declared.delims.Delims.{Delims}
use Rattle.x12_segs.specs.Words.{SegValue}
use Rattle.guide_tree.specs.declared.element.ElementType.TheVariants as type
use Rattle.guide_tree.specs.declared.element.Requirement.TheVariants as requirement
use Rattle.guide_tree.specs.declared.element.Element.{Element}
use Rattle.guide_tree.specs.declared.element.Element.TheVariants as element
use Rattle.guide_tree.specs.declared.slot.Slot.{Slot}
use Rattle.guide_tree.specs.declared.node.Loop.{Loop}
use Rattle.guide_tree.specs.Words.{Trees, segment, loop, no_trees, tree, GuideTree, IsWellFormed}
use Rattle.guide_tree.proofs.ForAbove.{accepted}
use Rattle.set_check.specs.SetParts.{SetParts, parts_of}
use Rattle.set_check.specs.Meets.{MeetsAlone}
use Rattle.set_check.proofs.Told.{IsOfRules, all_faults, none_of_rules, meets_by, fails_by_fault, fails_by_code}

-- one element, mandatory, of 1 to 3 bytes
abbrev name : List Element
name = element.Simple (record {
  reference = codes "93";
  requirement = requirement.Mandatory;
  data_type = type.Text;
  min = 1;
  max = 3;
  wide = false;
  codes = None;
}) 1 ∷ []

abbrev slot : (number : ℕ) → List ℕ → (least most : ℕ) → Slot
slot number id least most = record {
  number = number;
  id = id;
  label = None;
  min = least;
  max = most;
  picks = [];
  elements = name;
  conditions = [];
}

abbrev repeated : (number : ℕ) → List ℕ → (least most : ℕ) → Loop
repeated number id least most = record { number = number; id = id; min = least; max = most }

-- BEG once; loops N1 up to 2, in each N1, N3 up to 2 and up to one loop C of PER; CTT up to 2
abbrev nodes : Trees
nodes = tree (segment (slot 1 (codes "BEG") 1 1)) (tree
    (loop (repeated 2 (codes "N1") 0 2) (tree (segment (slot 3 (codes "N1") 1 1)) (tree (segment (slot 4 (codes "N3") 0 2))
    (tree (loop (repeated 5 (codes "C") 0 1) (tree (segment (slot 6 (codes "PER") 1 1)) no_trees)) no_trees))))
    (tree (segment (slot 7 (codes "CTT") 0 2)) no_trees))

abbrev guide : GuideTree
guide = record {
  head = record {
    name = codes "H";
    group = codes "PO";
    set = codes "850";
    version = codes "005010";
    convention = Some (codes "H1");
    dictionary = [];
    tolerate_segment = [];
    tolerate_element = [];
  };
  hl = None;
  depends = [];
  nodes = nodes;
}

sound : IsWellFormed guide
sound = accepted guide refl refl

plain : (parts : SetParts) (f : Fault) → IsOfRules guide parts f → ⊥
plain parts = none_of_rules guide parts refl refl

abbrev delims : Delims
delims = record { element = 42; component = 62; repetition = None; terminator = 126 }

abbrev seg : List ℕ → SegValue
seg bytes = record { start = 0; bytes = bytes; delims = delims }

abbrev set : Bool → List (List ℕ) → SetParts
set closed texts = parts_of delims closed (map seg texts)

-- a set with these texts between its ST and an SE of this count
abbrev with_body : List (List ℕ) → List ℕ → SetParts
with_body texts count = set true (codes "ST*850*0001*H1" ∷ (texts ++ (codes "SE*" ++ count ++ codes "*0001") ∷ []))

abbrev whole : List (List ℕ)
whole = codes "BEG*A" ∷ codes "N1*A" ∷ codes "N3*A" ∷ codes "PER*A" ∷ codes "CTT*A" ∷ []

meets : MeetsAlone (Some guide) (with_body whole (codes "7"))
meets = meets_by guide (with_body whole (codes "7")) sound (plain (with_body whole (codes "7"))) refl refl

-- without ST03 it does as well
abbrev without_convention : SetParts
without_convention = set true (codes "ST*850*0001" ∷ codes "BEG*A" ∷ codes "SE*0003*0001" ∷ [])

meets_without_convention : MeetsAlone (Some guide) without_convention
meets_without_convention = meets_by guide without_convention sound (plain without_convention) refl refl

abbrev of_element : (position : ℕ) → (id loop_id : List ℕ) → (slot : ℕ) → ElementCode → (copy : List ℕ) → Fault
of_element position id loop_id slot code copy = record {
  position = position;
  id = id;
  loop_id = loop_id;
  code = ik304.ElementErrors;
  slot = slot;
  elem = Some (record { element = 1; component = 0; repetition = 0; code = code; reference = codes "93"; copy = copy });
}

abbrev of_segment : (position : ℕ) → (id loop_id : List ℕ) → (slot : ℕ) → SegmentCode → Fault
of_segment position id loop_id slot code =
    record { position = position; id = id; loop_id = loop_id; code = code; slot = slot; elem = None }

-- element faults at the top, in a loop and in a nested loop; positions count ST; a stray has none
abbrev wrong : List (List ℕ)
wrong = codes "BEG" ∷ codes "N1*ABCD" ∷ codes "Q9*ABCDE*A" ∷ codes "N3*A" ∷ codes "PER" ∷ codes "CTT*ABCD" ∷ []

element_faults : all_faults guide (with_body wrong (codes "8")) ≡
    (of_segment 4 (codes "Q9") [] 0 ik304.UnrecognizedSegment
    ∷ of_element 2 (codes "BEG") [] 1 ik403.RequiredMissing []
    ∷ of_element 3 (codes "N1") (codes "N1") 3 ik403.TooLong (codes "ABCD")
    ∷ of_element 6 (codes "PER") (codes "C") 6 ik403.RequiredMissing []
    ∷ of_element 7 (codes "CTT") [] 7 ik403.TooLong (codes "ABCD") ∷ [])
element_faults = refl

-- an element fault alone
abbrev with_long_element : SetParts
with_long_element = with_body (codes "BEG*ABCD" ∷ []) (codes "3")

fails_by_element : MeetsAlone (Some guide) with_long_element → ⊥
fails_by_element = fails_by_fault guide with_long_element _ _ sound (plain with_long_element) refl

-- what is missing at the end shows at SE, or without SE after the last segment
missing_before_trailer : all_faults guide (with_body [] (codes "2")) ≡ of_segment 2 (codes "BEG") [] 1 ik304.RequiredSegmentMissing ∷ []
missing_before_trailer = refl

missing_without_trailer :
    all_faults guide (set false (codes "ST*850*0001*H1" ∷ codes "N1*A" ∷ codes "N1*A" ∷ codes "N1*A" ∷ []))
    ≡ of_segment 2 (codes "BEG") [] 1 ik304.RequiredSegmentMissing ∷ of_segment 4 (codes "N1") (codes "N1") 2 ik304.LoopTooOften ∷ []
missing_without_trailer = refl

missing_at_the_end : all_faults guide (set false (codes "ST*850*0001*H1" ∷ codes "Q9" ∷ []))
    ≡ of_segment 2 (codes "Q9") [] 0 ik304.UnrecognizedSegment ∷ of_segment 3 (codes "BEG") [] 1 ik304.RequiredSegmentMissing ∷ []
missing_at_the_end = refl

fails_by_structure : MeetsAlone (Some guide) (with_body [] (codes "2")) → ⊥
fails_by_structure = fails_by_fault guide (with_body [] (codes "2")) _ _ sound (plain (with_body [] (codes "2"))) refl

-- each of the rest fails a set whose body is derived: no guide, no SE, another SE01 or SE02, a short ST02, another ST03
abbrev one : List ℕ → List ℕ → SetParts
one header trailer = set true (header ∷ codes "BEG*A" ∷ trailer ∷ [])

fails_without_guide : MeetsAlone None (with_body whole (codes "7")) → ⊥
fails_without_guide = fails_by_code None (with_body whole (codes "7")) _ _ tt refl

fails_without_trailer : MeetsAlone (Some guide) (set false (codes "ST*850*0001*H1" ∷ whole)) → ⊥
fails_without_trailer = fails_by_code (Some guide) (set false (codes "ST*850*0001*H1" ∷ whole)) _ _ sound refl

fails_by_count : MeetsAlone (Some guide) (one (codes "ST*850*0001*H1") (codes "SE*4*0001")) → ⊥
fails_by_count = fails_by_code (Some guide) (one (codes "ST*850*0001*H1") (codes "SE*4*0001")) _ _ sound refl

fails_by_form_of_count : MeetsAlone (Some guide) (one (codes "ST*850*0001*H1") (codes "SE*00000000003*0001")) → ⊥
fails_by_form_of_count = fails_by_code (Some guide) (one (codes "ST*850*0001*H1") (codes "SE*00000000003*0001")) _ _ sound refl

fails_by_control : MeetsAlone (Some guide) (one (codes "ST*850*0001*H1") (codes "SE*3*00001")) → ⊥
fails_by_control = fails_by_code (Some guide) (one (codes "ST*850*0001*H1") (codes "SE*3*00001")) _ _ sound refl

fails_by_short_control : MeetsAlone (Some guide) (one (codes "ST*850*001*H1") (codes "SE*3*001")) → ⊥
fails_by_short_control = fails_by_code (Some guide) (one (codes "ST*850*001*H1") (codes "SE*3*001")) _ _ sound refl

fails_by_convention : MeetsAlone (Some guide) (one (codes "ST*850*0001*H2") (codes "SE*3*0001")) → ⊥
fails_by_convention = fails_by_code (Some guide) (one (codes "ST*850*0001*H2") (codes "SE*3*0001")) _ _ sound refl
