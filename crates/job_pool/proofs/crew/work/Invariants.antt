use Rattle.std.proofs.Common.{◌≡◌, map}
use Rattle.job_pool.proofs.crew.work.Given as goal

abbrev pub invariant-loop : goal.invariant-loop
invariant-loop g l =
    (goal.iterator-loop g).can_next l.iterator' × (goal.iterator-loop g).is_finite l.iterator'
    × (l.seat.desk ≡ l.desk) × (l.seat.weight ≡ l.initial.seat.weight) × (l.seat.ended ≡ 0)
    × (map g.T.Task.number_of l.done.items ≡ l.seat.got)
