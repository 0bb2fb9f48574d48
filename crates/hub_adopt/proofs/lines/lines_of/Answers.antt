use Rattle.std.proofs.Common.{arith}
use Rattle.hub_adopt.proofs.Numbering.{lines_more}
use Rattle.hub_adopt.proofs.lines.lines_of.Goals as goal

pub loop-i-preserved : goal.loop-i-preserved
loop-i-preserved c =
    lines_more c.args.order.now c.loop-i.i c.index-order-i.result c.loop-i.text.items c.append_line.new.out.items (omega (arith))
    c.index-order-i.is c.loop-i.invariant c.in_ok-append_line.ensures
