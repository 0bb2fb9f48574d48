use Rattle.std.proofs.Common.{◌∙◌, arith, sym}
use Rattle.hub_adopt.proofs.Comparing.{all_same, one_more}
use Rattle.hub_adopt.proofs.given.first_other.Goals as goal

pub loop-i-preserved : goal.loop-i-preserved
loop-i-preserved c =
    one_more c.args.these.now c.args.those.now c.loop-i.i c.index-these-i-in-loop-i.result c.index-those-i.result (omega (arith))
    (omega (arith)) c.index-these-i-in-loop-i.is c.index-those-i.is (sym c.is_same.ensures ∙ c.if-not-is_same.false) c.loop-i.invariant

pub returns : goal.returns
returns c none =
    all_same c.args.these.now c.args.those.now c.loop-i.i (omega (arith)) (omega (arith, c.name_after.ensures none)) c.loop-i.invariant
