use Rattle.std.proofs.Common.{◌≡◌, ◌++◌, ◌+◌, [], map, drop, take}
use Rattle.env_index.specs.Words.{set_numbers_from}
use Rattle.set_answers.specs.Asked.{sets_asked}
use Rattle.worker_pool.specs.Jobs.{job_value}
use Rattle.set_findings.specs.Jobs.{jobs_at}
use Rattle.set_findings.proofs.jobs.add_sets.Given as goal

abbrev pub invariant-loop-index : goal.invariant-loop-index
invariant-loop-index l =
    map job_value l.jobs.items ++ jobs_at (set_numbers_from l.isa l.gs (l.index + 1) (drop l.index l.group.sets))
    (sets_asked l.sent l.group.header (take l.index l.group.sets) (drop l.index l.group.sets))
    ≡ map job_value l.fn.jobs.items
    ++ jobs_at (set_numbers_from l.isa l.gs 1 l.group.sets) (sets_asked l.sent l.group.header [] l.group.sets)
