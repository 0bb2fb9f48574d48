use Rattle.std.proofs.Common.{◌+◌, arith, take}
use Rattle.night_search.proofs.ForAbove.{lines_more}
use Rattle.night_page.specs.Names.{texts_of}
use Rattle.night_page.specs.Page.{partner_among}
use Rattle.night_page.proofs.Growing.{one_more}
use Rattle.night_page.proofs.partners.append_all.Goals as goal

pub loop-i-preserved : goal.loop-i-preserved
loop-i-preserved c =
    let all = c.args.partners.now in
    let one = c.index-partners-i.result in
    let i = c.loop-i.i in
    lines_more (partner_among (texts_of c.args.senders.now) (texts_of c.args.receivers.now)) (take i all) (take (i + 1) all) one
    c.args.out.now.items c.loop-i.out.items c.append_among.new.out.items (one_more all i one (omega (arith)) c.index-partners-i.is)
    c.loop-i.invariant c.in_ok-append_among.ensures
