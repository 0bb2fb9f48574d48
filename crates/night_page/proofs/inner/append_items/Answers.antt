use Rattle.std.proofs.Common.{◌∙◌, ◌+◌, ◌++◌, ℕ, List, ap, arith, take}
use Rattle.night_search.proofs.ForAbove.{lines_more}
use Rattle.night_page.specs.Tags.{item}
use Rattle.night_page.proofs.Growing.{one_more}
use Rattle.night_page.proofs.inner.append_items.Goals as goal

pub loop-i-preserved : goal.loop-i-preserved
loop-i-preserved c =
    let all = c.args.lines.now in
    let one = c.index-lines-i.result in
    let i = c.loop-i.i in
    lines_more item (take i all) (take (i + 1) all) one c.args.out.now.items c.loop-i.out.items c.append_item.new.out.items
    (one_more all i one (omega (arith)) c.index-lines-i.is) c.loop-i.invariant
    (c.in_ok-append_item.ensures ∙ ap (λ (t : List ℕ). c.loop-i.out.items ++ item t) c.as_slice.ensures)
