use Rattle.std.proofs.Common.{arith}
use Rattle.guide_page.proofs.Growing.{more}
use Rattle.guide_page.specs.Conditions.{dependency_item}
use Rattle.guide_page.proofs.conditions.append_dependency_items.Goals as goal

pub loop-i-preserved : goal.loop-i-preserved
loop-i-preserved c =
    more dependency_item c.args.depends.now c.loop-i.i c.index-depends-i.result c.args.out.now.items c.loop-i.out.items
    c.append_dependency.new.out.items
    (omega (arith)) c.index-depends-i.is c.loop-i.invariant c.in_ok-append_dependency.ensures
