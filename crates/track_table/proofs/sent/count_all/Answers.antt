use Rattle.std.proofs.Common.{List, sym, subst, refl, take, arith}
use Rattle.std.proofs.lemmas.List.{take_all}
use Rattle.std.proofs.lemmas.Option.{slice_get_read}
use Rattle.mailbox.proofs.ForAbove.{take_one_more}
use Rattle.track_table.specs.declared.notes.Notes.{Notes}
use Rattle.track_table.specs.Walking.{AreSent}
use Rattle.track_table.proofs.sent.count_all.Goals as goal

pub loop-i-preserved : goal.loop-i-preserved
loop-i-preserved c n are =
    let night = c.args.night.now in
    subst (λ (ms : List Notes). AreSent n ms c.count_one.new.sent)
    (sym (take_one_more night c.loop-i.i c.index-night-i.result
    (slice_get_read night _ c.loop-i.i c.index-night-i.result refl c.loop-i-test.true c.index-night-i.is)))
    (c.in_ok-count_one.ensures n (take c.loop-i.i night) (c.loop-i.invariant n are))

pub returns : goal.returns
returns c n are =
    subst (λ (ms : List Notes). AreSent n ms c.loop-i.sent) (take_all c.loop-i.i c.args.night.now (omega (arith, c.loop-i-test.false)))
    (c.loop-i.invariant n are)
