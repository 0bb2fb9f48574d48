use Rattle.std.proofs.Common.{arith}
use Rattle.night_entries.proofs.Naming.{named_more}
use Rattle.night_entries.proofs.named.by_name.Goals as goal

pub loop-i-preserved : goal.loop-i-preserved
loop-i-preserved g c =
    named_more g.T.Named.name c.loop-i.map c.insert.new.self _ c.args.items.now c.loop-i.i c.name.result.now (omega (arith))
    c.index-items-i.is c.name.ensures c.in_ok-insert.ensures.updates c.loop-i.invariant
