use Rattle.std.proofs.Common.{◌≡◌, ◌++◌, ◌+◌, map, drop}
use Rattle.worker_pool.specs.Jobs.{job_value}
use Rattle.set_findings.specs.Jobs.{jobs_behind}
use Rattle.set_findings.proofs.jobs.jobs_behind.Given as goal

abbrev pub invariant-loop-i : goal.invariant-loop-i
invariant-loop-i l =
    map job_value l.jobs.items ++ jobs_behind l.text l.guides (l.before + l.i + 1) (drop l.i l.entries)
    ≡ jobs_behind l.text l.guides (l.before + 1) l.entries
