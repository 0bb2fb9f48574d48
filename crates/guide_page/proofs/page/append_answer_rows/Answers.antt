use Rattle.std.proofs.Common.{arith}
use Rattle.guide_page.proofs.Growing.{more}
use Rattle.guide_page.specs.Page.{answer_row}
use Rattle.guide_page.proofs.page.append_answer_rows.Goals as goal

pub loop-i-preserved : goal.loop-i-preserved
loop-i-preserved c =
    more answer_row c.args.answers.now c.loop-i.i c.index-answers-i.result c.args.out.now.items c.loop-i.out.items
    c.append_answer.new.out.items
    (omega (arith)) c.index-answers-i.is c.loop-i.invariant c.in_ok-append_answer.ensures
