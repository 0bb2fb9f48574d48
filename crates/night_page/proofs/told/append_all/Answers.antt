use Rattle.std.proofs.Common.{◌+◌, arith, take}
use Rattle.night_search.proofs.ForAbove.{lines_more}
use Rattle.night_page.specs.Page.{told_one}
use Rattle.night_page.proofs.Growing.{one_more}
use Rattle.night_page.proofs.told.append_all.Goals as goal

pub loop-i-preserved : goal.loop-i-preserved
loop-i-preserved c =
    let all = c.args.partners.now in
    let one = c.index-partners-i.result in
    let i = c.loop-i.i in
    lines_more told_one (take i all) (take (i + 1) all) one c.args.out.now.items c.loop-i.out.items c.append_one.new.out.items
    (one_more all i one (omega (arith)) c.index-partners-i.is) c.loop-i.invariant c.in_ok-append_one.ensures
