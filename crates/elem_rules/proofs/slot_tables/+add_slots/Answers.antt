use Rattle.std.proofs.Common.{List, Option, refl, ap, sym, ◌∙◌}
use Rattle.std.specs.Prelude.{Vec}
use Rattle.std.specs.declared.alloc.Global.{Global}
use Rattle.guide_tree.specs.declared.slot.Slot.{Slot}
use Rattle.guide_tree.specs.declared.node.Node.{Node}
use Rattle.guide_tree.specs.Words.{loop, nodes_view}
use Rattle.guide_tree.proofs.ForAbove.{view_loop}
use Rattle.elem_rules.specs.NodeSlots.{lent_slots}
use Rattle.elem_rules.proofs.NodeLists.{view_segment, segment_more, loop_more}
use Rattle.elem_rules.proofs.slot_tables.+add_slots.Goals as goal
use Rattle.elem_rules.proofs.slot_tables.+add_slots.Goals.{in-Segment+in_ok-push-in-Segment}
use Rattle.elem_rules.proofs.slot_tables.+add_slots.Goals.{in-Loop+in_ok-push-in-Loop+in_ok-add_slots-in-Loop}
use denote.Ref.{Bor}

pub loop-node-preserved : goal.loop-node-preserved
loop-node-preserved t c = elim c.match-node.branch [
  | in-Segment+in_ok-push-in-Segment w ↦
      segment_more c.args.nodes.now c.loop-node.node-index c.node-item.result w.in-Segment.slot c.loop-node.slots.items
      c.match-node.slots.items _ _ c.loop-node-test.true c.node-item.is (view_segment _ w.in-Segment.slot w.in-Segment.is) refl
      (ap (λ (v : Vec (Option (Bor Slot)) Global). v.items) w.slots-is ∙ w.in_ok-push-in-Segment.ensures.items) c.loop-node.invariant
  | in-Loop+in_ok-push-in-Loop+in_ok-add_slots-in-Loop w ↦
      loop_more c.args.nodes.now c.loop-node.node-index c.node-item.result w.in-Loop.field-0 (nodes_view w.deref.result.now)
      c.loop-node.slots.items w.push-in-Loop.new.self.items c.match-node.slots.items _ c.loop-node-test.true c.node-item.is
      (view_loop _ w.in-Loop.field-0 w.in-Loop.inner w.in-Loop.is
      ∙ ap (λ (ns : List Node). loop w.in-Loop.field-0 (nodes_view ns)) (sym w.deref.ensures.value))
      w.in_ok-push-in-Loop.ensures.items
      (ap (λ (v : Vec (Option (Bor Slot)) Global). lent_slots v.items) w.slots-is ∙ w.in_ok-add_slots-in-Loop.ensures)
      c.loop-node.invariant
]
