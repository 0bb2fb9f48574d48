-- The placed segments of a ship notice, worked.
use Rattle.std.proofs.Common.{◌≡◌, ℕ, List, [], ◌∷◌, codes, map, None, refl}
use Rattle.x12_segs.specs.Words.{parts}
use Rattle.guide_tree.specs.declared.slot.Slot.{Slot}
use Rattle.guide_tree.specs.declared.node.Loop.{Loop}
use Rattle.guide_tree.specs.Words.{Trees, segment, loop, no_trees, tree, placing_of, Segment}
use Rattle.loop_match.specs.PlacedSegments.{PlacedSegment, placed_segments}

abbrev slot : (number : ℕ) → List ℕ → Slot
slot number id = record {
  number = number;
  id = id;
  label = None;
  min = 1;
  max = 1;
  picks = [];
  elements = [];
  conditions = [];
}

abbrev repeated : (number : ℕ) → List ℕ → Loop
repeated number id = record { number = number; id = id; min = 0; max = 9 }

-- BSN; loops HL, in each HL and loops LIN, in each LIN; CTT
abbrev notice : Trees
notice = tree (segment (slot 1 (codes "BSN"))) (tree (loop (repeated 2 (codes "HL")) (tree (segment (slot 3 (codes "HL")))
    (tree (loop (repeated 4 (codes "LIN")) (tree (segment (slot 5 (codes "LIN"))) no_trees)) no_trees)))
    (tree (segment (slot 6 (codes "CTT"))) no_trees))

abbrev body : List Segment
body = map (parts 42) (codes "BSN*00" ∷ codes "HL*1" ∷ codes "XYZ*1" ∷ codes "LIN*1" ∷ codes "CTT" ∷ codes "HL*2" ∷ [])

abbrev placed : (position number : ℕ) → (text id loop_id : List ℕ) → PlacedSegment
placed position number text id loop_id =
    record { position = position; segment = parts 42 text; slot = slot number id; loop_id = loop_id }

-- all but what has no place, as XYZ and the HL that comes too late; each with its position and the loop that it stands in
each_in_its_loop : placed_segments notice body (placing_of notice body)
    ≡ placed 2 1 (codes "BSN*00") (codes "BSN") [] ∷ placed 3 3 (codes "HL*1") (codes "HL") (codes "HL")
    ∷ placed 5 5 (codes "LIN*1") (codes "LIN") (codes "LIN") ∷ placed 6 6 (codes "CTT") (codes "CTT") [] ∷ []
each_in_its_loop = refl

-- none where no place leads to a slot, nor where there are no segments
none_by_another_guide : placed_segments no_trees body (placing_of notice body) ≡ []
none_by_another_guide = refl

none_of_none : placed_segments notice [] [] ≡ []
none_of_none = refl
