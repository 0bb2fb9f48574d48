use Rattle.std.proofs.Common.{◌+◌, arith, map, take}
use Rattle.night_search.proofs.ForAbove.{lines_more}
use Rattle.csv.specs.Records.{fields_of}
use Rattle.night_page.specs.Page.{name_part}
use Rattle.night_page.proofs.Growing.{one_more}
use Rattle.night_page.proofs.todo.append_causes.Goals as goal

pub loop-i-preserved : goal.loop-i-preserved
loop-i-preserved c =
    let all = c.args.causes.now in
    let one = c.index-causes-i.result in
    let i = c.loop-i.i in
    lines_more (name_part (map fields_of c.args.rows.now)) (take i all) (take (i + 1) all) one c.args.out.now.items c.loop-i.out.items
    c.append_name.new.out.items
    (one_more all i one (omega (arith)) c.index-causes-i.is) c.loop-i.invariant c.in_ok-append_name.ensures
