use Rattle.std.proofs.Common.{arith}
use Rattle.hub_night.specs.Made.{guide_file}
use Rattle.hub_night.proofs.Lists.{mapped_more}
use Rattle.hub_night.proofs.made.push_guides.Goals as goal

pub loop-i-preserved : goal.loop-i-preserved
loop-i-preserved c =
    mapped_more guide_file c.args.guides.now c.loop-i.i c.index-guides-i.result c.in_ok-guide_file.field-0 c.args.files.now.items
    c.loop-i.files.items c.push.new.self.items (omega (arith)) c.index-guides-i.is c.loop-i.invariant c.in_ok-guide_file.ensures
    c.in_ok-push.ensures.items
