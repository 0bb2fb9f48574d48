use Rattle.std.proofs.Common.{◌+◌, ◌<◌, ℕ, List, length, refl, sym, subst, arith}
use Rattle.std.specs.List.{All}
use Rattle.std.proofs.lemmas.List.Elements.{All-push}
use Rattle.env_index.specs.Words.{IndexEntry}
use Rattle.worker_pool.specs.Asked.{IsJudgeJob, judge_asked}
use Rattle.worker_pool.specs.declared.judgement.JudgeJob.{JudgeJob}
use Rattle.set_findings.proofs.Adding.{one_more}
use Rattle.set_findings.proofs.Answering.{judges_at, pushed}
use Rattle.set_findings.proofs.judged.judge_jobs.Goals as goal

pub loop-i-preserved : goal.loop-i-preserved
loop-i-preserved c =
    let i : ℕ = c.loop-i.i in
    let es : List IndexEntry = c.args.index.now.entries in
    let inside : i < length es
    = subst (λ (l : List IndexEntry). i < length l) c.interchanges-i-end.ensures.value c.loop-i-test.true in
    let job : JudgeJob = record { index = c.args.index; number = i + 1 } in
    let old : List JudgeJob = c.loop-i.jobs.items in
    record {
      asked = one_more _ _ _ _ _ _ (pushed judge_asked old c.push.new.self.items job c.in_ok-push.ensures.items)
          (judges_at c.args.index.now (i + 1) i (i + 1) es inside refl) c.loop-i.invariant.asked;
      ready = subst (All IsJudgeJob) (sym c.in_ok-push.ensures.items)
          (All-push IsJudgeJob old job c.loop-i.invariant.ready (omega arith, omega (arith, inside)));
    }
