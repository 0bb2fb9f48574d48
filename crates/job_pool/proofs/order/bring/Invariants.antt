use Rattle.std.proofs.Common.{◌≡◌, map, vec_len, Some, slice_get}
use Rattle.claim_desk.specs.Seats.{EachOnce}
use Rattle.job_pool.specs.Work.{StayHome}
use Rattle.job_pool.proofs.Exchanges.{away}
use Rattle.job_pool.proofs.order.bring.Given as goal

abbrev pub invariant-loop-number : goal.invariant-loop-number
invariant-loop-number g l = record {
  once : EachOnce l.count (map g.T.Task.number_of l.done.items);
  len : vec_len l.done ≡ vec_len l.fn.done;
  at : slice_get (map g.T.Task.number_of l.done.items) l.place ≡ Some l.number;
  kept : StayHome (map g.T.Task.number_of l.fn.done.items) (map g.T.Task.number_of l.done.items);
}

abbrev pub decreases-loop-number : goal.decreases-loop-number
decreases-loop-number g l = away 0 (map g.T.Task.number_of l.done.items)
