-- What the jobs of an index are made by may be shared between threads, and the jobs may go to another thread: in one step for the types
-- that hold them, since a `search` that goes down through a setup and its guides runs out of steps.
use denote.Plain.{UInt}
use denote.Ref.{NamedLft}
use denote.Param.Send.{IsSend, IsSync, sendable}
use mir.Syntax.{w64}
use Rattle.std.specs.contracts.option.Option as option
use Rattle.env_index.specs.contracts.index.IndexedInterchange as entry
use Rattle.guide_fast.proofs.ForAbove.{fast_sync}
use Rattle.guide_tree.proofs.node.Loop.TheSendSync as loop
use Rattle.guide_tree.proofs.node.Node.TheLaws.TheKnot as knot
use Rattle.guide_tree.proofs.rows.Dependency.TheSendSync as dependency
use Rattle.guide_tree.proofs.rows.GuideHead.TheSendSync as head
use Rattle.guide_tree.proofs.rows.HlRule.TheSendSync as hl
use Rattle.guide_tree.proofs.slot.Slot.TheSendSync as slot
use Rattle.guide_tree.specs.contracts.guide.Guide as guide
use Rattle.set_findings.specs.contracts.guides.FastGuides as guides
use Rattle.partner_setup.specs.contracts.setup.Setup as setup
use Rattle.std.proofs.Crossing.{crosses}
use Rattle.std.proofs.MapsCrossing as maps
use Rattle.std.proofs.vec.Vec.TheSendSync as vec
use Rattle.worker_pool.specs.contracts.job.CheckJob as job
use Rattle.worker_pool.specs.contracts.job.SetJob as set_job
use Rattle.x12_segs.proofs.set_span.SetSpan.TheSendSync as span

guide_sync : IsSync guide.the_field.row
guide_sync =
    search (
      loop.the_field_sync,
      dependency.the_sync,
      head.the_field_sync,
      hl.the_sync,
      slot.the_field_sync,
      vec.the_sync,
      crosses,
      knot.crosses,
      sendable,
    ) depth 60 fits 20000

pub setup_sync : IsSync setup.the_field.row
setup_sync = search (guide_sync, maps.crosses, crosses, sendable) depth 60 fits 20000

pub guides_sync : (κ : NamedLft) → IsSync (guides.the_field κ).row
guides_sync κ = search (setup_sync, fast_sync, maps.crosses, crosses, sendable) depth 60 fits 20000

pub sender_sync : IsSync (option.the_row (UInt w64))
sender_sync = search (crosses, sendable) depth 60 fits 20000

pub entry_sync : (κ : NamedLft) → IsSync (entry.the_field κ).row
entry_sync κ = search (crosses, sendable) depth 60 fits 20000

set_job_send : (κ κ' κ'' : NamedLft) → IsSend (set_job.the_field κ κ' κ'').row
set_job_send κ κ' κ'' = search (fast_sync, span.the_field_send, crosses, sendable) depth 60 fits 20000

pub job_send : (κ κ' κ'' : NamedLft) → IsSend (job.the_field κ κ' κ'').row
job_send κ κ' κ'' = search (set_job_send, crosses, sendable) depth 60 fits 20000
