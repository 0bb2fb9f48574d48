-- What a batch is answered by may be shared between threads, and findings and acknowledgments may go to another thread: in one step for
-- the types that hold them, since a `search` that goes down through a setup and its guides runs out of steps.
use denote.Ref.{NamedLft}
use denote.Param.Send.{IsSend, IsSync, sendable}
use Rattle.env_index.specs.contracts.index.IndexedInterchange as entry
use Rattle.guide_tree.proofs.node.Loop.TheSendSync as loop
use Rattle.guide_tree.proofs.node.Node.TheLaws.TheKnot as knot
use Rattle.guide_tree.proofs.rows.Dependency.TheSendSync as dependency
use Rattle.guide_tree.proofs.rows.GuideHead.TheSendSync as head
use Rattle.guide_tree.proofs.rows.HlRule.TheSendSync as hl
use Rattle.guide_tree.proofs.slot.Slot.TheSendSync as slot
use Rattle.guide_tree.specs.contracts.guide.Guide as guide
use Rattle.moment.specs.contracts.at.At as moment
use Rattle.partner_setup.specs.contracts.setup.Setup as setup
use Rattle.set_answers.specs.contracts.batch.Batch as batch
use Rattle.set_answers.specs.contracts.files.Acknowledgments as sent
use Rattle.set_check.specs.contracts.finding.Finding as finding
use Rattle.set_answers.specs.contracts.halving.Part as part
use Rattle.set_check.proofs.ForAbove.{checked_send}
use Rattle.std.proofs.Crossing.{crosses}
use Rattle.std.proofs.MapsCrossing as maps
use Rattle.std.proofs.vec.Vec.TheSendSync as vec

guide_sync : IsSync guide.the_field.row
guide_sync =
    search (
      loop.the_field_sync,
      dependency.the_sync,
      head.the_field_sync,
      hl.the_sync,
      slot.the_field_sync,
      vec.the_sync,
      crosses,
      knot.crosses,
      sendable,
    ) depth 60 fits 20000

setup_sync : IsSync setup.the_field.row
setup_sync = search (guide_sync, maps.crosses, crosses, sendable) depth 60 fits 20000

at_sync : IsSync moment.the_field.row
at_sync = search (crosses, sendable) depth 60 fits 20000

batch_sync : (κ κ' : NamedLft) → IsSync (batch.the_field κ κ').row
batch_sync κ κ' = search (setup_sync, at_sync, crosses, sendable) depth 60 fits 20000

entry_sync : (κ : NamedLft) → IsSync (entry.the_field κ).row
entry_sync κ = search (crosses, sendable) depth 60 fits 20000

sent_send : IsSend sent.the_field.row
sent_send = search (crosses, sendable) depth 60 fits 20000

finding_send : (κ : NamedLft) → IsSend (finding.the_field κ).row
finding_send κ = search (checked_send, crosses, sendable) depth 60 fits 20000

pub part_send : (κ κ' κ'' : NamedLft) → IsSend (part.the_field κ κ' κ'').row
part_send κ κ' κ'' = search (batch_sync, entry_sync, finding_send, sent_send, crosses, sendable) depth 60 fits 20000
