use Rattle.std.proofs.Common.{refl, ap, ◌∙◌, arith}
use Rattle.track_table.proofs.Sending.{apart, others_keep, recipient_gets}
use Rattle.track_table.specs.Mailed.{is_to}
use Rattle.track_table.proofs.sent.count_one.Goals as goal

pub returns-in_ok-more-in-Some : goal.returns-in_ok-more-in-Some
returns-in_ok-more-in-Some c n xs are =
    recipient_gets n c.in-Some.place xs c.args.notes.now c.args.sent.now _ c.sent_at-was.result.now c.in_ok-more-in-Some.more c.in-Some.is
    c.sent_at-was.ensures c.in_ok-more-in-Some.ensures refl are

pub returns-in_default : goal.returns-in_default
returns-in_default c n xs are =
    others_keep n xs c.args.notes.now c.args.sent.now
    (λ q within. ap (is_to q) c.in-Some.is ∙ apart c.in-Some.place q (λ e. omega (arith, e, within, are.count, c.if-place-sent.false))) are
