use Rattle.std.proofs.Common.{subst}
use Rattle.worker_pool.specs.Asked.{JudgeAnswer}
use Rattle.set_findings.proofs.Zipped.{zip_more}
use Rattle.set_findings.proofs.Answering.{IsFaultAt}
use Rattle.set_findings.proofs.judged.faults_of_each.Goals as goal

pub loop-i-preserved : goal.loop-i-preserved
loop-i-preserved c =
    zip_more IsFaultAt c.args.done.now c.loop-i.faults.items c.push.new.self.items c.loop-i.i _ c.fault.result c.loop-i-test.true
    c.in_ok-push.ensures.items c.loop-i.invariant
    (subst (λ (d : JudgeAnswer). IsFaultAt d c.fault.result) c.index-done-i.is c.fault.ensures)
