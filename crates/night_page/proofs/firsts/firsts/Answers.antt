use Rattle.std.proofs.Common.{map}
use Rattle.csv.specs.Records.{fields_of}
use Rattle.night_page.specs.Totals.{firsts}
use Rattle.night_page.proofs.FirstRows.{stepped}
use Rattle.night_page.proofs.firsts.firsts.Goals as goal

pub loop-i-preserved : goal.loop-i-preserved
loop-i-preserved c =
    let step = stepped fields_of c.args.all.now c.loop-i.begin c.loop-i.i c.begin_of-begin.result c.index-all-i.result
    c.is_further-further.result (map (λ row. fields_of row.now) c.loop-i.found.items)
    (map (λ row. fields_of row.now) c.push_first.new.found.items) (firsts (map fields_of c.args.all.now)) c.loop-i.invariant.within
    c.loop-i-test.true c.index-all-i.is c.is_further-further.ensures c.in_ok-push_first.ensures c.begin_of-begin.ensures
    c.loop-i.invariant.found in
    record { within = step.0; found = step.1 }
