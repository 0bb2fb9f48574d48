use Rattle.std.proofs.Common.{◌+◌, arith, map, rules, take}
use Rattle.csv.specs.Records.{fields_of}
use Rattle.night_search.proofs.ForAbove.{taken}
use Rattle.night_page.specs.Causes.{has_cause}
use Rattle.night_page.proofs.Growing.{count_more}
use Rattle.night_page.proofs.todo.rows_with.Goals as goal

pub loop-i-preserved : goal.loop-i-preserved
loop-i-preserved c =
    let rows = c.args.rows.now in
    let row = c.index-rows-i.result in
    let i = c.loop-i.i in
    record {
      few = omega (arith, c.loop-i.invariant.few, c.one_if.ensures.small);
      counted = count_more (has_cause c.args.cause.now) (map fields_of (take i rows)) (map fields_of (take (i + 1) rows)) (fields_of row)
          c.loop-i.count c.one_if.result _ (taken fields_of rows i row (omega (arith)) c.index-rows-i.is) c.loop-i.invariant.counted
          (search rules);
    }
