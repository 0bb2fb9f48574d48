use Rattle.std.proofs.Common.{◌≡◌, ◌++◌, map}
use Rattle.worker_pool.proofs.Naming.{AreOf}
use Rattle.worker_pool.proofs.checks.check_unbranded.Given as goal

-- those so far, each to the job that its number names
abbrev pub invariant-loop-named : goal.invariant-loop-named
invariant-loop-named g l = (l.fn.list.items ≡ l.yielded ++ l.named-iterator.rest.items)
    × (map g.K.PlaceJob.number_of l.all.items ≡ l.yielded)
    × AreOf g.K.PlaceJob.number_of g.K.PlaceJob.answers g.N.Checks.jobs l.all.items
