use Rattle.std.proofs.Common.{◌≡◌, ℕ, ◌<◌, map, vec_len}
use Rattle.claim_desk.specs.Seats.{EachOnce}
use Rattle.job_pool.specs.Work.{IsHome}
use Rattle.job_pool.proofs.order.in_order.Given as goal

abbrev pub invariant-loop-place : goal.invariant-loop-place
invariant-loop-place g l = record {
  once : EachOnce l.count (map g.T.Task.number_of l.done.items);
  len : vec_len l.done ≡ vec_len l.initial.done;
  home : (k : ℕ) → k < l.place → IsHome (map g.T.Task.number_of l.done.items) k;
}
