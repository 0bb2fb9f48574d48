use Rattle.std.proofs.Common.{List, map, ap, subst, ◌∙◌}
use Rattle.std.specs.List.{AllZip}
use Rattle.worker_pool.specs.Asked.{JudgeAnswer, judge_asked}
use Rattle.set_findings.proofs.Answering.{IsFaultAt, judged_are}
use Rattle.set_findings.proofs.judged.judged_by.Goals as goal

pub returns-in-Ok-faults_of_each : goal.returns-in-Ok-faults_of_each
returns-in-Ok-faults_of_each g c =
    judged_are c.args.index.now c.in_ok-done.done.items c.in-Ok-faults_of_each.faults.items
    (c.in_ok-done.ensures ∙ ap (map judge_asked) c.as_slice.ensures.value ∙ c.in-Ok.ensures.jobs)
    (subst (λ (ds : List JudgeAnswer). AllZip IsFaultAt ds c.in-Ok-faults_of_each.faults.items) c.as_slice-2.ensures.value
    c.in-Ok-faults_of_each.ensures)
