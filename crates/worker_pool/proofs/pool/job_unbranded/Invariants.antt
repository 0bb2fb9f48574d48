use Rattle.std.proofs.Common.{◌≡◌, ◌++◌, map}
use Rattle.worker_pool.proofs.Naming.{AreOf}
use Rattle.worker_pool.proofs.pool.job_unbranded.Given as goal

-- those so far, each to the job that its number names
abbrev pub invariant-loop-named : goal.invariant-loop-named
invariant-loop-named g l = (l.fn.list.items ≡ l.yielded ++ l.named-iterator.rest.items)
    × (map g.J.Job.number_of l.all.items ≡ l.yielded)
    × AreOf g.J.Job.number_of g.J.Job.job_of g.N.Jobs.jobs l.all.items
