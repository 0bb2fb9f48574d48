use Rattle.std.proofs.Common.{◌≡◌, ℕ, List, map, ap, subst, ◌∙◌, arith}
use Rattle.std.proofs.lemmas.List.{length-map}
use Rattle.cut_plan.specs.Plan.{pieces}
use Rattle.cut_plan.proofs.ForAbove.{length-pieces}
use Rattle.env_marks.specs.HeadLaws.{heads_under}
use Rattle.env_marks.specs.Laws.{values}
use Rattle.isa_scan.specs.Heads.{heads_in}
use Rattle.worker_pool.specs.Asked.{heads_asked}
use Rattle.set_findings.proofs.Answering.{heads_are}
use Rattle.set_findings.proofs.heads.heads_by.Goals as goal

pub gather-requires : goal.gather-requires
gather-requires g c =
    let text : List ℕ = c.args.text.now in
    let ps = length-pieces 0 c.args.cuts.now.places c.args.cuts.now.text_len in
    let listed : c.in-Ok-heads_of_each.list.items ≡ values heads_under tt text (pieces c.args.cuts.now)
    = c.in-Ok-heads_of_each.ensures
    ∙ heads_are text (pieces c.args.cuts.now) c.in_ok-done.done.items
    (c.in_ok-done.ensures ∙ ap (map heads_asked) c.as_slice.ensures.value ∙ c.in-Ok.ensures.jobs) in
    rw (listed, length-map, ps) (omega arith)

pub returns-in-Ok-gather : goal.returns-in-Ok-gather
returns-in-Ok-gather g c =
    let text : List ℕ = c.args.text.now in
    let listed : c.in-Ok-heads_of_each.list.items ≡ values heads_under tt text (pieces c.args.cuts.now)
    = c.in-Ok-heads_of_each.ensures
    ∙ heads_are text (pieces c.args.cuts.now) c.in_ok-done.done.items
    (c.in_ok-done.ensures ∙ ap (map heads_asked) c.as_slice.ensures.value ∙ c.in-Ok.ensures.jobs) in
    subst (λ (n : ℕ). c.in-Ok-gather.heads ≡ heads_in text 0 n) c.requires.cuts
    (c.in-Ok-gather.ensures {u = tt} tt text c.args.cuts.now c.in-Ok.ensures.plan (omega (arith, c.requires.cuts)) listed)
