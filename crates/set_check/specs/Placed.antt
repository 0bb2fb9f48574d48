-- X12.6, order of segments (own): segments that were placed by a guide, with what is wrong with their order and number. Private.
use Rattle.std.specs.Prelude.{◌≡◌, ◌↔◌, ◌+◌, List, map, length}
use Rattle.std.specs.List.{Contains}
use Rattle.hub_kinds.specs.declared.fault.Fault.{Fault}
use Rattle.hub_kinds.specs.Words.{AreRising}
use Rattle.x12_segs.specs.Words.{SegValue, elements_of}
use Rattle.guide_tree.specs.declared.rows.GuideRows.{GuideRows}
use Rattle.guide_tree.specs.Words.{guide_of, nodes_view, placing_of, slot_given, IsStructureFault}
use Rattle.loop_match.specs.Given.{Placed, place_in, slot_in}

-- each has the place that the guide gives it, and that place's slot; the faults are those of their structure, each once and in order
pub record IsPlacedBy (rows : GuideRows) (body : List SegValue) (p : Placed) : Type 0 where
  pub places : map place_in p.given ≡ placing_of (nodes_view rows.nodes.items) (map elements_of body)
  pub slots : map slot_in p.given ≡ map (slot_given (nodes_view rows.nodes.items)) (placing_of (nodes_view rows.nodes.items)
      (map elements_of body))
  pub faults : (f : Fault) → Contains p.faults f ↔ IsStructureFault (guide_of rows) (map elements_of body)
      (placing_of (nodes_view rows.nodes.items) (map elements_of body)) (length body + 2) f
  pub rising : AreRising p.faults
