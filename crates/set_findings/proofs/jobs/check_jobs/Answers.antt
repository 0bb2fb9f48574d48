use Rattle.std.proofs.Common.{◌∙◌, ℕ, List, ap}
use Rattle.env_index.specs.Words.{IndexEntry}
use Rattle.set_findings.specs.Jobs.{jobs_of}
use Rattle.set_findings.proofs.Placing.{places_are, spans_are}
use Rattle.set_findings.proofs.jobs.check_jobs.Goals as goal

pub returns-clause-jobs : goal.returns-clause-jobs
returns-clause-jobs g c =
    let setup = c.args.guides.now in
    c.in_ok-jobs.ensures
    ∙ ap (λ (t : List ℕ). jobs_of t setup c.interchanges-entries.result.now) c.text-text.ensures
    ∙ ap (λ (es : List IndexEntry). jobs_of c.args.index.now.text setup es) c.interchanges-entries.ensures.value

pub returns-clause-places : goal.returns-clause-places
returns-clause-places g c = places_are c.args.guides.now c.args.index.now c.in_ok-jobs.jobs.items (returns-clause-jobs g c)

pub returns-clause-spans : goal.returns-clause-spans
returns-clause-spans g c =
    spans_are c.args.index.now.text c.args.guides.now c.args.index.now.entries c.in_ok-jobs.jobs.items (returns-clause-jobs g c)
