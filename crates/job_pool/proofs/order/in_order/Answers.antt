use Rattle.std.proofs.Common.{arith, map}
use Rattle.std.proofs.lemmas.List.{length-map}
use Rattle.job_pool.proofs.Exchanges.{all_home}
use Rattle.job_pool.proofs.order.in_order.Goals as goal

pub returns : goal.returns
returns g c =
    let done = c.loop-place.done in
    all_home c.args.count (map g.T.Task.number_of done.items) c.loop-place.invariant.once
    (λ k within. c.loop-place.invariant.home k (omega (arith, length-map done.items g.T.Task.number_of)))
