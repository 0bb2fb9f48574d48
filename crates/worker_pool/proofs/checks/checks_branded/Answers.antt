use denote.Param.Send.{sendable}
use Rattle.std.proofs.Crossing.{crosses}
use Rattle.worker_pool.proofs.checks.Checking.TheSendSync as checking
use Rattle.worker_pool.proofs.checks.checks_branded.Goals as goal

pub run_tasks-requires-sync-T : goal.run_tasks-requires-sync-T
run_tasks-requires-sync-T g c κs within = search (checking.the_sync, crosses, sendable) depth 60 fits 20000
