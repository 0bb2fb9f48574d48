use Rattle.std.proofs.Common.{◌≡◌, ◌≤◌, max, subst, arith, rules}
use Rattle.std.proofs.lemmas.List.{take_all}
use Rattle.guide_fast.specs.Keys.{begin_reach, Reaches}
use Rattle.guide_fast.proofs.Keyed.{one_reached}
use Rattle.guide_fast.proofs.keys.nodes_reach.Goals as goal

pub loop-k-preserved : goal.loop-k-preserved
loop-k-preserved c =
    let x = c.index-nodes-k.result in
    let own = c.begin_reach.ensures in
    let grown : c.max-reach.result ≡ max c.loop-k.reach c.begin_reach.result = search rules in
    let more : c.loop-k.reach ≤ c.max-reach.result = omega (arith, grown) in
    let next : begin_reach x ≤ c.max-reach.result = omega (arith, grown, own) in
    one_reached begin_reach c.args.nodes.now c.loop-k.k c.loop-k.reach c.max-reach.result x c.loop-k-test.true c.index-nodes-k.is
    c.loop-k.invariant more next

pub returns : goal.returns
returns c =
    subst (Reaches begin_reach c.loop-k.reach) (take_all c.loop-k.k c.args.nodes.now c.loop-k-test.false) c.loop-k.invariant
