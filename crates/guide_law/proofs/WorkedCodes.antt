-- Each structural code on one guide, computed. Segments are named by their ids.
use Rattle.std.proofs.Common.{◌≡◌, ℕ, List, [], ◌∷◌, codes, Some, None, refl}
use Rattle.hub_kinds.specs.declared.fault.Fault.{Fault}
use Rattle.hub_kinds.specs.declared.codes.SegmentCode.{SegmentCode}
use Rattle.hub_kinds.specs.declared.codes.SegmentCode.TheVariants as ik304
use Rattle.guide_tree.specs.declared.slot.Slot.{Slot}
use Rattle.guide_tree.specs.declared.slot.Pick.{Pick}
use Rattle.guide_tree.specs.declared.node.Loop.{Loop}
use Rattle.guide_tree.specs.Words.{Tree, Trees, segment, loop, no_trees, tree, GuideTree, Segment, use_of, placing_of, structure_faults}

abbrev slot : (number : ℕ) → List ℕ → (least most : ℕ) → List Pick → Slot
slot number id least most picks = record {
  number = number;
  id = id;
  label = None;
  min = least;
  max = most;
  picks = picks;
  elements = [];
  conditions = [];
}

abbrev repeated : (number : ℕ) → List ℕ → (least most : ℕ) → Loop
repeated number id least most = record { number = number; id = id; min = least; max = most }

-- A 2..3; loop L 2..2 of T, B 1..1 and a loop M 0..1 of U and C 1..1; D 0..0; REF with X 0..1
abbrev inner : Tree
inner = loop (repeated 5 (codes "M") 0 1)
    (tree (segment (slot 6 (codes "U") 1 1 [])) (tree (segment (slot 7 (codes "C") 1 1 [])) no_trees))

abbrev outer : Tree
outer = loop (repeated 2 (codes "L") 2 2)
    (tree (segment (slot 3 (codes "T") 1 1 [])) (tree (segment (slot 4 (codes "B") 1 1 [])) (tree inner no_trees)))

abbrev nodes : Trees
nodes = tree (segment (slot 1 (codes "A") 2 3 [])) (tree outer (tree (segment (slot 8 (codes "D") 0 0 []))
    (tree (segment (slot 9 (codes "REF") 0 1 (record { position = 1; codes = codes "X" ∷ [] } ∷ []))) no_trees)))

abbrev guide : GuideTree
guide = record {
  head = record {
    name = codes "H";
    group = codes "PO";
    set = codes "850";
    version = codes "005010";
    convention = None;
    dictionary = codes "AMT" ∷ [];
    tolerate_segment = [];
    tolerate_element = [];
  };
  hl = None;
  depends = [];
  nodes = nodes;
}

abbrev ref : List ℕ → Segment
ref value = codes "REF" ∷ value ∷ []

abbrev at : (position : ℕ) → (id loop_id : List ℕ) → SegmentCode → (slot : ℕ) → Fault
at position id loop_id code number =
    record { position = position; id = id; loop_id = loop_id; code = code; slot = number; elem = None }

abbrev faults : (end : ℕ) → List Segment → List Fault
faults end body = structure_faults guide end body (placing_of nodes body)

abbrev seg : List ℕ → Segment
seg id = id ∷ []

-- no fault at all
abbrev good : List Segment
good = seg (codes "A") ∷ seg (codes "A") ∷ seg (codes "T") ∷ seg (codes "B") ∷ seg (codes "T") ∷ seg (codes "B")
    ∷ seg (codes "U") ∷ seg (codes "C") ∷ ref (codes "X") ∷ []

pub good_is_placed : placing_of nodes good ≡
    (Some (use_of 0 0 ∷ []) ∷ Some (use_of 0 1 ∷ []) ∷ Some (use_of 1 0 ∷ use_of 0 0 ∷ [])
    ∷ Some (use_of 1 0 ∷ use_of 1 0 ∷ []) ∷ Some (use_of 1 1 ∷ use_of 0 0 ∷ []) ∷ Some (use_of 1 1 ∷ use_of 1 0 ∷ [])
    ∷ Some (use_of 1 1 ∷ use_of 2 0 ∷ use_of 0 0 ∷ []) ∷ Some (use_of 1 1 ∷ use_of 2 0 ∷ use_of 1 0 ∷ [])
    ∷ Some (use_of 3 0 ∷ []) ∷ [])
good_is_placed = refl

pub good_has_none : faults 11 good ≡ []
good_has_none = refl

-- I8, 3 in a loop, 3 in a nested loop, I7, I4
pub short_everywhere : faults 6 (seg (codes "A") ∷ seg (codes "T") ∷ seg (codes "U") ∷ seg (codes "D") ∷ []) ≡
    (at 3 (codes "A") [] ik304.SegmentTooSeldom 1
    ∷ at 4 (codes "B") (codes "L") ik304.RequiredSegmentMissing 4
    ∷ at 5 (codes "C") (codes "M") ik304.RequiredSegmentMissing 7
    ∷ at 5 (codes "T") (codes "L") ik304.LoopTooSeldom 2
    ∷ at 5 (codes "D") [] ik304.NotUsedPresent 8 ∷ [])
short_everywhere = refl

-- 5, 4, and at the end 3 in the last repetition
pub past_everywhere : faults 11 (seg (codes "A") ∷ seg (codes "A") ∷ seg (codes "A") ∷ seg (codes "A") ∷ seg (codes "T")
    ∷ seg (codes "B") ∷ seg (codes "T") ∷ seg (codes "B") ∷ seg (codes "T") ∷ []) ≡
    (at 5 (codes "A") [] ik304.SegmentTooOften 1
    ∷ at 10 (codes "T") (codes "L") ik304.LoopTooOften 2
    ∷ at 11 (codes "B") (codes "L") ik304.RequiredSegmentMissing 4 ∷ [])
past_everywhere = refl

-- 1, 6, 2, 7 and an empty loop L
pub strays : faults 9 (seg (codes "A") ∷ seg (codes "Q9") ∷ seg (codes "AMT") ∷ ref (codes "Y") ∷ seg (codes "A")
    ∷ ref (codes "X") ∷ seg (codes "A") ∷ []) ≡
    (at 3 (codes "Q9") [] ik304.UnrecognizedSegment 0
    ∷ at 4 (codes "AMT") [] ik304.NotInSet 0
    ∷ at 5 (codes "REF") [] ik304.UnexpectedSegment 0
    ∷ at 7 (codes "T") (codes "L") ik304.RequiredSegmentMissing 2
    ∷ at 8 (codes "A") [] ik304.OutOfSequence 0 ∷ [])
strays = refl

-- nothing at all: what is needed at the top is missing at the end
pub nothing : faults 2 [] ≡
    (at 2 (codes "A") [] ik304.RequiredSegmentMissing 1 ∷ at 2 (codes "T") (codes "L") ik304.RequiredSegmentMissing 2 ∷ [])
nothing = refl
