-- Own: what the fields of a state mean. Private.
use Rattle.std.specs.Prelude.{◌+◌, ◌≤◌, length, count_by}
use Rattle.work_core.specs.Core.{Core}
use Rattle.work_core.specs.declared.state.CoreState.TheInside.{Inside}

abbrev pub core_of : Inside → Core
core_of s = record {
  jobs = s.jobs.items;
  next = s.next;
  workers = s.workers.items;
  recorded = s.recorded.items;
  finished = s.finished.items;
}

-- each claim gave a job or ended a worker
abbrev pub IsCounted : Inside → Type 0
IsCounted s = s.next ≤ length s.jobs.items + count_by (λ w. w.ended) s.workers.items
