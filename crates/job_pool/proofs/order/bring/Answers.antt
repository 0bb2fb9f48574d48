use Rattle.std.proofs.Common.{◌∙◌, arith, map}
use Rattle.std.proofs.lemmas.List.{length-map}
use Rattle.job_pool.proofs.Counting.{is_within}
use Rattle.job_pool.proofs.Exchanges.{exchanged}
use Rattle.job_pool.proofs.order.bring.Goals as goal

pub swap-requires-clause-j_in_bounds : goal.swap-requires-clause-j_in_bounds
swap-requires-clause-j_in_bounds g c =
    let done = c.loop-number.done in
    omega (
      arith,
      length-map done.items g.T.Task.number_of,
      is_within c.args.count (map g.T.Task.number_of done.items) c.loop-number.invariant.once _ _ c.loop-number.invariant.at,
    )

pub loop-number-smaller : goal.loop-number-smaller
loop-number-smaller g c =
    (exchanged g.T.Task.number_of c.args.count c.loop-number.done.items c.swap.new.self.items _ _
    c.loop-number.invariant.once c.loop-number.invariant.at c.loop-number-test.true c.swap.ensures.items).2

pub loop-number-preserved : goal.loop-number-preserved
loop-number-preserved g c =
    let step =
    exchanged g.T.Task.number_of c.args.count c.loop-number.done.items c.swap.new.self.items _ _
    c.loop-number.invariant.once c.loop-number.invariant.at c.loop-number-test.true c.swap.ensures.items in
    record {
      once = step.0;
      len = c.swap.ensures.len ∙ c.loop-number.invariant.len;
      at = c.number_at-number-in-loop-number.ensures;
      kept = λ k home. step.1 k (c.loop-number.invariant.kept k home);
    }
