use Rattle.std.proofs.Common.{◌≡◌, ◌++◌, ◌+◌, ℕ, List, length, map, sym, ap, ◌∙◌, arith}
use Rattle.std.proofs.lemmas.List.{map-append, take-append-drop}
use Rattle.std.proofs.lemmas.Result.{IfOk-at_ok}
use Rattle.env_index.specs.Words.{IndexEntry}
use Rattle.worker_pool.specs.Jobs.{job_value}
use Rattle.worker_pool.specs.declared.job.CheckJob.{CheckJob}
use Rattle.set_findings.specs.Jobs.{jobs_behind}
use Rattle.set_findings.proofs.Adding.{jobs_joined}
use Rattle.std.proofs.Crossing.{crosses}
use denote.Param.Send.{param_send, sendable}
use Rattle.set_findings.proofs.Crossing.{entry_sync, guides_sync, job_send, sender_sync}
use Rattle.set_findings.proofs.jobs.+halves.Lts-jobs_by as lts
use Rattle.set_findings.proofs.jobs.+halves.Goals as goal

pub join-first-requires-send-F : goal.join-first-requires-send-F
join-first-requires-send-F g t c κs within =
    param_send 1 (lts.arg-3-1 g.row.R g.R.laws g.R.Threads-dict κs)
    (search (sender_sync, guides_sync, entry_sync, crosses, sendable) depth 60 fits 20000)

pub join-first-requires-send-A : goal.join-first-requires-send-A
join-first-requires-send-A g t c κs within =
    param_send 3 (lts.arg-3-3 g.row.R g.R.laws g.R.Threads-dict κs) (search (job_send, crosses, sendable) depth 60 fits 20000)

pub returns : goal.returns
returns g t c =
    let text : List ℕ = c.args.text.now in
    let setup = c.args.guides.now in
    let before : ℕ = c.args.before in
    let low : List IndexEntry = c.split_at.result.0.now in
    let high : List IndexEntry = c.split_at.result.1.now in
    let jobs : List CheckJob = c.in_ok-jobs.jobs.items in
    let more : List CheckJob = c.in_ok-more.more.items in
    let first = IfOk-at_ok (λ v. map job_value v.items ≡ jobs_behind text setup (before + 1) low) c.in_ok-jobs.was
    c.join-first.ensures.first in
    let second = IfOk-at_ok (λ v. map job_value v.items ≡ jobs_behind text setup (before + length low + 1) high) c.in_ok-more.was
    c.join-first.ensures.second in
    let same : before + length low + 1 ≡ before + 1 + length low = omega arith in
    let all : low ++ high ≡ c.args.entries.now =
    (λ i. c.split_at.ensures.front i ++ c.split_at.ensures.back i) ∙ take-append-drop _ c.args.entries.now in
    ap (λ (l : List CheckJob). map job_value l) c.in_ok-append.ensures.items ∙ map-append job_value jobs more
    ∙ (λ i. first i ++ second i)
    ∙ ap (λ (k : ℕ). jobs_behind text setup (before + 1) low ++ jobs_behind text setup k high) same
    ∙ sym (jobs_joined text setup (before + 1) low high)
    ∙ ap (λ (es : List IndexEntry). jobs_behind text setup (before + 1) es) all
