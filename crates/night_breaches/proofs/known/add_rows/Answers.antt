use Rattle.std.proofs.Common.{refl, arith}
use Rattle.night_breaches.proofs.Knowing.{rows_more}
use Rattle.night_breaches.proofs.known.add_rows.Goals as goal

pub loop-i-preserved : goal.loop-i-preserved
loop-i-preserved c =
    rows_more c.args.rows.now c.loop-i.rows c.insert.new.self c.args.night.now _ c.args.more.now c.loop-i.i c.index-more-i.result
    c.as_slice.result.now (omega (arith)) c.index-more-i.is c.as_slice.ensures c.in_ok-insert.ensures.updates refl c.loop-i.invariant
