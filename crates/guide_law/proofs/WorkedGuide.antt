-- A small order's guide and bodies, on which the definitions are computed: BEG once, REF up to 12 times, up to two
-- loops N1 with N3, and at least one loop PO1.
use Rattle.std.proofs.Common.{ℕ, List, [], ◌∷◌, codes, None}
use Rattle.hub_kinds.specs.declared.fault.Fault.{Fault}
use Rattle.hub_kinds.specs.declared.codes.SegmentCode.{SegmentCode}
use Rattle.guide_tree.specs.declared.slot.Slot.{Slot}
use Rattle.guide_tree.specs.declared.node.Loop.{Loop}
use Rattle.guide_tree.specs.Words.{Tree, Trees, segment, loop, no_trees, tree, GuideTree, Segment, Place, use_of}

abbrev pub slot : (number : ℕ) → List ℕ → (least most : ℕ) → Slot
slot number id least most = record {
  number = number;
  id = id;
  label = None;
  min = least;
  max = most;
  picks = [];
  elements = [];
  conditions = [];
}

abbrev pub repeated : (number : ℕ) → List ℕ → (least most : ℕ) → Loop
repeated number id least most = record { number = number; id = id; min = least; max = most }

abbrev pub beg : Slot
beg = slot 1 (codes "BEG") 1 1

abbrev pub ref : Slot
ref = slot 2 (codes "REF") 0 12

abbrev pub party : Slot
party = slot 4 (codes "N1") 1 1

abbrev pub address : Slot
address = slot 5 (codes "N3") 0 2

abbrev pub parties : Tree
parties = loop (repeated 3 (codes "N1") 0 2) (tree (segment party) (tree (segment address) no_trees))

abbrev pub item : Slot
item = slot 7 (codes "PO1") 1 1

abbrev pub items : Tree
items = loop (repeated 6 (codes "PO1") 1 99999) (tree (segment item) no_trees)

abbrev pub order : Trees
order = tree (segment beg) (tree (segment ref) (tree parties (tree items no_trees)))

abbrev pub order_guide : GuideTree
order_guide = record {
  head = record {
    name = codes "H";
    group = codes "PO";
    set = codes "850";
    version = codes "005010";
    convention = None;
    dictionary = codes "AMT" ∷ [];
    tolerate_segment = [];
    tolerate_element = [];
  };
  hl = None;
  depends = [];
  nodes = order;
}

-- a segment that is its id alone
abbrev pub alone : List ℕ → Segment
alone id = id ∷ []

-- places of BEG and REF, and of what the repetitions of the loops begin with
abbrev pub at_child : ℕ → Place
at_child child = use_of child 0 ∷ []

abbrev pub at_party : ℕ → Place
at_party repetition = use_of 2 repetition ∷ use_of 0 0 ∷ []

abbrev pub at_item : Place
at_item = use_of 3 0 ∷ use_of 0 0 ∷ []

abbrev pub fault_at : (position : ℕ) → (id loop_id : List ℕ) → SegmentCode → (slot : ℕ) → Fault
fault_at position id loop_id code number =
    record { position = position; id = id; loop_id = loop_id; code = code; slot = number; elem = None }
