use Rattle.std.proofs.Common.{◌≡◌, drop}
use Rattle.work_core.specs.Core.{fresh, run}
use Rattle.work_core.proofs.state.run_events.Given as goal

abbrev pub invariant-loop-event : goal.invariant-loop-event
invariant-loop-event l = run l.state (drop l.event-index l.events) ≡ run (fresh l.fn.jobs.items l.fn.workers) l.events
