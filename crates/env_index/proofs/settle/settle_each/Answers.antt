use Rattle.std.proofs.Common.{arith}
use Rattle.env_index.proofs.Settling.{settled_more, settled_all}
use Rattle.env_index.proofs.settle.settle_each.Goals as goal

pub loop-i-preserved : goal.loop-i-preserved
loop-i-preserved c =
    settled_more c.loop-i.entries c.args.faults.now c.loop-i.i c.index-entries-i.result c.settle.new.self _ _ (omega arith)
    c.loop-i-test.true c.settle.ensures c.loop-i.invariant

pub returns : goal.returns
returns c = settled_all c.loop-i.entries c.args.faults.now c.loop-i.i _ (omega arith) c.loop-i.invariant
