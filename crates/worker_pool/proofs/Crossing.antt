-- The jobs at places may be shared between threads: in one step for the types that hold them.
use denote.Ref.{NamedLft}
use denote.Param.Send.{IsSync, recorded_sync, sendable}
use Rattle.guide_fast.proofs.ForAbove.{fast_sync}
use Rattle.std.proofs.Crossing.{crosses}
use Rattle.worker_pool.specs.contracts.job.CheckJob as job
use Rattle.worker_pool.specs.contracts.job.SetJob as set_job
use Rattle.x12_segs.proofs.set_span.SetSpan.TheSendSync as span

set_job_sync : (κ κ' κ'' : NamedLft) → IsSync (set_job.the_field κ κ' κ'').row
set_job_sync κ κ' κ'' = search (fast_sync, span.the_field_sync, crosses, sendable) depth 60 fits 20000

job_sync : (κ κ' κ'' : NamedLft) → IsSync (job.the_field κ κ' κ'').row
job_sync κ κ' κ'' = search (set_job_sync, crosses, sendable) depth 60 fits 20000

pub job_row_sync : (κ κ' κ'' : NamedLft) → IsSync (job.the_row κ κ' κ'')
job_row_sync κ κ' κ'' =
    recorded_sync (job.the_field κ κ' κ'').row _ _ (job.the_type κ κ' κ'').to_one (job_sync κ κ' κ'')
