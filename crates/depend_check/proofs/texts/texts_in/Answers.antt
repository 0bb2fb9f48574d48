use Rattle.std.proofs.Common.{take, sym, subst}
use Rattle.loop_match.specs.Viewed.{placed_view, placed_views}
use Rattle.depend_check.specs.Uses.{KnowsTexts}
use Rattle.depend_check.proofs.Lists.{more_views}
use Rattle.depend_check.proofs.texts.texts_in.Goals as goal

pub loop-i-preserved : goal.loop-i-preserved
loop-i-preserved c =
    subst (KnowsTexts c.add_text.new.texts c.args.label.now c.args.at)
    (sym (more_views placed_view c.args.uses.now c.loop-i.i c.index-uses-i.result c.index-uses-i.is c.loop-i-test.true))
    (c.in_ok-add_text.ensures (placed_views (take c.loop-i.i c.args.uses.now)) c.loop-i.invariant)
