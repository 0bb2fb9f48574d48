use Rattle.std.proofs.Common.{◌≡◌, ◌≤◌, max, subst, arith, rules}
use Rattle.std.proofs.lemmas.List.{take_all}
use Rattle.guide_fast.specs.Keys.{lent_reach, Reaches}
use Rattle.guide_fast.proofs.Keyed.{one_reached}
use Rattle.guide_fast.proofs.keys.slots_reach.Goals as goal

pub loop-k-preserved : goal.loop-k-preserved
loop-k-preserved c =
    let x = c.index-slots-k.result in
    let own = c.slot_reach.ensures in
    let grown : c.max-reach.result ≡ max c.loop-k.reach c.slot_reach.result = search rules in
    let more : c.loop-k.reach ≤ c.max-reach.result = omega (arith, grown) in
    let next : lent_reach x ≤ c.max-reach.result = omega (arith, grown, own) in
    one_reached lent_reach c.args.slots.now c.loop-k.k c.loop-k.reach c.max-reach.result x c.loop-k-test.true c.index-slots-k.is
    c.loop-k.invariant more next

pub returns : goal.returns
returns c =
    subst (Reaches lent_reach c.loop-k.reach) (take_all c.loop-k.k c.args.slots.now c.loop-k-test.false) c.loop-k.invariant
