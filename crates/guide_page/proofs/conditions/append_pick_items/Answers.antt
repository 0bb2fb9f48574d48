use Rattle.std.proofs.Common.{arith}
use Rattle.guide_page.proofs.Growing.{more}
use Rattle.guide_page.specs.Conditions.{pick_item}
use Rattle.guide_page.proofs.conditions.append_pick_items.Goals as goal

pub loop-i-preserved : goal.loop-i-preserved
loop-i-preserved c =
    more (pick_item c.args.id.now) c.args.picks.now c.loop-i.i c.index-picks-i.result c.args.out.now.items c.loop-i.out.items
    c.append_pick.new.out.items
    (omega (arith)) c.index-picks-i.is c.loop-i.invariant c.in_ok-append_pick.ensures
