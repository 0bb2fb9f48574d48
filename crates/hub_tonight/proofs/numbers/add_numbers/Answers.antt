use Rattle.std.proofs.Common.{arith}
use Rattle.hub_tonight.proofs.Mapping.{numbers_more}
use Rattle.hub_tonight.proofs.numbers.add_numbers.Goals as goal

pub loop-i-preserved : goal.loop-i-preserved
loop-i-preserved g c =
    numbers_more g.T.Numbered.key g.T.Numbered.numbers c.args.map.now c.loop-i.map c.insert.new.self _ _ c.args.rows.now c.loop-i.i
    c.key.result.now (omega (arith)) c.index-rows-i.is c.key.ensures c.numbers.ensures c.in_ok-insert.ensures.updates c.loop-i.invariant
