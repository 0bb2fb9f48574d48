use Rattle.std.proofs.Common.{arith}
use Rattle.env_index.proofs.known.count_before.Goals as goal

pub returns-clause-value : goal.returns-clause-value
returns-clause-value c = λ k divided.
    let above = c.loop-low.invariant.above k divided in
    let below = c.loop-low.invariant.below k divided in
    omega (arith, above, below, c.loop-low.invariant.order, c.loop-low-test.false)
