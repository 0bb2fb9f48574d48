-- A setup may be shared between threads, in one step for the functions that hand one to a thread: a `search` that goes down through its
-- guides runs out of steps.
use denote.Ref.{NamedLft}
use denote.Param.Send.{IsSync, sendable}
use Rattle.guide_tree.proofs.node.Loop.TheSendSync as loop
use Rattle.guide_tree.proofs.node.Node.TheLaws.TheKnot as knot
use Rattle.guide_tree.proofs.rows.Dependency.TheSendSync as dependency
use Rattle.guide_tree.proofs.rows.GuideHead.TheSendSync as head
use Rattle.guide_tree.proofs.rows.HlRule.TheSendSync as hl
use Rattle.guide_tree.proofs.slot.Slot.TheSendSync as slot
use Rattle.guide_tree.specs.contracts.guide.Guide as guide
use Rattle.answered_sets.specs.contracts.judged.JudgedInterchange as judged
use Rattle.partner_setup.specs.contracts.setup.Setup as setup
use Rattle.std.proofs.Crossing.{crosses}
use Rattle.std.proofs.MapsCrossing as maps
use Rattle.std.proofs.vec.Vec.TheSendSync as vec

guide_sync : IsSync guide.the_field.row
guide_sync =
    search (
      loop.the_field_sync,
      dependency.the_sync,
      head.the_field_sync,
      hl.the_sync,
      slot.the_field_sync,
      vec.the_sync,
      crosses,
      knot.crosses,
      sendable,
    ) depth 60 fits 20000

pub setup_sync : IsSync setup.the_field.row
setup_sync = search (guide_sync, maps.crosses, crosses, sendable) depth 60 fits 20000

pub judged_sync : (κ κ' : NamedLft) → IsSync (judged.the_field κ κ').row
judged_sync κ κ' = search (crosses, sendable) depth 60 fits 20000
