-- A checked set may go to another thread, in one step for the types that hold one: a `search` that goes down through it runs out of steps.
use denote.Ref.{NamedLft}
use denote.Param.Send.{IsSend, sendable}
use Rattle.guide_tree.proofs.node.Loop.TheSendSync as loop
use Rattle.guide_tree.proofs.node.Node.TheLaws.TheKnot as knot
use Rattle.guide_tree.proofs.rows.Dependency.TheSendSync as dependency
use Rattle.guide_tree.proofs.rows.GuideHead.TheSendSync as head
use Rattle.guide_tree.proofs.rows.HlRule.TheSendSync as hl
use Rattle.guide_tree.proofs.slot.Slot.TheSendSync as slot
use Rattle.hub_kinds.proofs.faults.Faults.TheSendSync as faults
use Rattle.hub_kinds.proofs.set_codes.SetCode.TheSendSync as code
use Rattle.set_walk.proofs.ends.Ends.TheSendSync as ends
use Rattle.set_check.specs.contracts.checked.CheckedSet as checked
use Rattle.std.proofs.Crossing.{crosses}
use Rattle.std.proofs.vec.Vec.TheSendSync as vec
use Rattle.x12_segs.proofs.set_span.SetSpan.TheSendSync as span

pub checked_send : (κ : NamedLft) → IsSend (checked.the_field κ).row
checked_send κ =
    search (
      loop.the_field_sync,
      dependency.the_sync,
      head.the_field_sync,
      hl.the_sync,
      slot.the_field_sync,
      faults.the_send,
      code.the_send,
      ends.the_field_send,
      vec.the_sync,
      span.the_field_send,
      crosses,
      knot.crosses,
      sendable,
    ) depth 60 fits 20000
