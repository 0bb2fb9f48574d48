-- X12.6, hierarchical level segment, and dependencies (own): the segments of a body that rules over the whole set look at. Private.
use Rattle.std.specs.Prelude.{◌≡◌, List, map, Bool, is_some}
use Rattle.std.specs.List.{filter}
use Rattle.x12_segs.specs.Words.{SegValue, elements_of}
use Rattle.guide_tree.specs.declared.slot.Slot.{Slot}
use Rattle.guide_tree.specs.Words.{Given, Segment}
use Rattle.hl_check.specs.Hierarchy.{is_hl}
use Rattle.hl_check.specs.Names.{AreNames}
use Rattle.set_walk.specs.declared.kept.SlottedSeg.{SlottedSeg}
use Rattle.set_walk.specs.declared.kept.Kept.{Kept}

-- a segment with the slot that it was given
abbrev pub Slotted : Type 0
Slotted = SegValue × Slot

abbrev pub slotted_view : SlottedSeg → Slotted
slotted_view s = (s.seg, s.slot.now)

abbrev pub segs_in : List Slotted → List SegValue
segs_in xs = map (λ x. x.0) xs

abbrev pub given_by : Slotted → Given
given_by x = (elements_of x.0, x.1)

abbrev pub segment_in : SlottedSeg → Segment
segment_in s = elements_of s.seg

abbrev pub given_in : SlottedSeg → Given
given_in s = (elements_of s.seg, s.slot.now)

abbrev pub is_hierarchical : Slotted → Bool
is_hierarchical x = is_hl (elements_of x.0)

abbrev pub is_labelled : Slotted → Bool
is_labelled x = is_some x.1.label

-- HL01 to HL04 of each HL that was kept
abbrev pub AreNamesKept : Kept → Type 0
AreNamesKept k = AreNames k.names.items (map segment_in k.hls.items)

-- of these segments the HLs with their names, and those whose slots have labels
pub record IsKept (k : Kept) (xs : List Slotted) : Type 0 where
  pub hls : map slotted_view k.hls.items ≡ filter is_hierarchical xs
  pub names : AreNamesKept k
  pub labelled : map slotted_view k.labelled.items ≡ filter is_labelled xs
