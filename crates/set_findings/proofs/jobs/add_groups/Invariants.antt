use Rattle.std.proofs.Common.{◌≡◌, ◌++◌, ◌+◌, [], map, drop, take}
use Rattle.env_index.specs.Words.{group_numbers_from}
use Rattle.set_answers.specs.Asked.{groups_asked}
use Rattle.worker_pool.specs.Jobs.{job_value}
use Rattle.set_findings.specs.Jobs.{jobs_at}
use Rattle.set_findings.proofs.jobs.add_groups.Given as goal

abbrev pub invariant-loop-index : goal.invariant-loop-index
invariant-loop-index l =
    map job_value l.jobs.items ++ jobs_at (group_numbers_from l.isa (l.index + 1) (drop l.index l.interchange.content.groups))
    (groups_asked l.sent (take l.index l.interchange.content.groups) (drop l.index l.interchange.content.groups))
    ≡ map job_value l.fn.jobs.items
    ++ jobs_at (group_numbers_from l.isa 1 l.interchange.content.groups) (groups_asked l.sent [] l.interchange.content.groups)
