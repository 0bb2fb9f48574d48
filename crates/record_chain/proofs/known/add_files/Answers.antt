use Rattle.std.proofs.Common.{arith}
use Rattle.record_chain.proofs.Naming.{files_more}
use Rattle.record_chain.proofs.known.add_files.Goals as goal

pub loop-i-preserved : goal.loop-i-preserved
loop-i-preserved c =
    files_more c.args.map.now c.loop-i.map c.insert.new.self _ c.args.files.now c.loop-i.i c.as_slice.result.now (omega (arith))
    c.index-files-i.is c.as_slice.ensures c.in_ok-insert.ensures.updates c.loop-i.invariant
