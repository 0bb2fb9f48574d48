use Rattle.std.proofs.Common.{◌≡◌, ℕ, ◌+◌, List, ap, ◌∙◌}
use Rattle.x12_segs.specs.Words.{SegValue, element_of}
use Rattle.env_index.specs.Words.{place_at}
use Rattle.env_index.specs.declared.entry.SetEnvelope.{SetEnvelope}
use Rattle.worker_pool.specs.Jobs.{job_value}
use Rattle.set_findings.specs.Jobs.{set_job}
use Rattle.set_findings.proofs.Adding.{one_more, pushed, sets_at}
use Rattle.set_findings.proofs.jobs.add_sets.Goals as goal

pub loop-index-preserved : goal.loop-index-preserved
loop-index-preserved c =
    let i : ℕ = c.loop-index.index in
    let sets : List SetEnvelope = c.args.group.now.sets in
    let set : SetEnvelope = c.set-set.result in
    let header : SegValue = c.args.group.now.header in
    let place = place_at c.args.isa c.args.gs (i + 1) in
    let job_is : job_value c.set_job.result ≡ set_job c.args.sent.now place (element_of header 1) (element_of header 8) set
    = c.set_job.ensures
    ∙ ap (λ (t : List ℕ). set_job c.args.sent.now place t c.element-version.result.now set)
    (c.element-code.ensures.value ∙ ap (λ (h : SegValue). element_of h 1) c.header-header.ensures)
    ∙ ap (λ (t : List ℕ). set_job c.args.sent.now place (element_of header 1) t set)
    (c.element-version.ensures.value ∙ ap (λ (h : SegValue). element_of h 8) c.header-header.ensures) in
    one_more _ _ _ _ _ _
    (pushed c.loop-index.jobs.items c.push.new.self.items c.set_job.result _ c.in_ok-push.ensures.items job_is)
    (sets_at c.args.sent.now c.args.isa c.args.gs (i + 1) i header sets set c.set-set.ensures)
    c.loop-index.invariant
