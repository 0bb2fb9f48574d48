use denote.Param.Send.{sendable}
use Rattle.set_check.proofs.ForAbove.{checked_send}
use Rattle.std.proofs.Crossing.{crosses}
use Rattle.worker_pool.proofs.Crossing.{job_row_sync}
use Rattle.worker_pool.proofs.checks.run_checks.Goals as goal

pub checks_branded-requires-send-K-Done : goal.checks_branded-requires-send-K-Done
checks_branded-requires-send-K-Done g c κs within = search (checked_send, crosses, sendable) depth 60 fits 20000

pub checks_branded-requires-sync-K : goal.checks_branded-requires-sync-K
checks_branded-requires-sync-K g c κs within = search (job_row_sync, sendable) depth 60 fits 20000
