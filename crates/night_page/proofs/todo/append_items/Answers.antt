use Rattle.std.proofs.Common.{◌+◌, arith, map, take}
use Rattle.csv.specs.Records.{fields_of}
use Rattle.night_search.proofs.ForAbove.{lines_more, taken}
use Rattle.night_page.specs.Page.{item_or_none}
use Rattle.night_page.proofs.todo.append_items.Goals as goal

pub loop-i-preserved : goal.loop-i-preserved
loop-i-preserved c =
    let rows = c.args.rows.now in
    let row = c.index-rows-i.result in
    let i = c.loop-i.i in
    lines_more (item_or_none c.args.cause.now) (map fields_of (take i rows)) (map fields_of (take (i + 1) rows)) (fields_of row)
    c.args.out.now.items
    c.loop-i.out.items c.append_item_or_none.new.out.items (taken fields_of rows i row (omega (arith)) c.index-rows-i.is) c.loop-i.invariant
    c.in_ok-append_item_or_none.ensures
