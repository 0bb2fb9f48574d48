use Rattle.std.proofs.lemmas.Result.{on_ok_weaker}
use Rattle.ack_999.proofs.Parts.{text_999-completed}
use Rattle.ack_999.proofs.report.append_tail.Goals as goal

pub returns-clause-whole : goal.returns-clause-whole
returns-clause-whole c =
    on_ok_weaker c.append_set_trailer.result
    (λ trailer before sets same old.
    text_999-completed c.args.delims.now c.args.group.now sets c.args.n c.segment_count.result c.args.totals.now before c.args.out.now.items
    c.append_group_response.new.out.items c.append_set_trailer.new.out.items same old c.in_ok-append_group_response.ensures.text
    c.segment_count.ensures trailer)
    c.append_set_trailer.ensures.text
