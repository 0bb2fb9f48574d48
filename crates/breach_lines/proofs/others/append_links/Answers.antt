use Rattle.std.proofs.Common.{arith}
use Rattle.breach_lines.specs.Lines.{line_of, link_words}
use Rattle.breach_lines.proofs.Chain.{line_more}
use Rattle.breach_lines.proofs.others.append_links.Goals as goal

pub loop-i-preserved : goal.loop-i-preserved
loop-i-preserved c =
    line_more (λ b. line_of (link_words b)) c.args.links.now c.loop-i.i c.index-links-i.result c.args.out.now.items c.loop-i.out.items
    c.append_link.new.out.items (omega (arith)) c.index-links-i.is c.loop-i.invariant c.in_ok-append_link.ensures
