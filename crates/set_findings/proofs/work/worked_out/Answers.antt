use Rattle.std.proofs.Common.{◌≡◌, ℕ, List, ◌++◌, ap, arith, drop, length, map, sym, subst, take, ◌∙◌}
use Rattle.std.proofs.Math.Seq.{take-append_seam}
use Rattle.std.specs.List.{All, AllZip}
use Rattle.env_index.specs.Words.{IndexValue, places_of}
use Rattle.worker_pool.specs.Jobs.{job_of, job_value, place_of}
use Rattle.worker_pool.specs.Spans.{AreSpans}
use Rattle.worker_pool.specs.declared.job.CheckJob.{CheckJob}
use Rattle.set_findings.proofs.FewSets.{HasItsSpans, few_sets, spans_alone}
use Rattle.set_findings.proofs.Placing.{found_places}
use Rattle.set_findings.proofs.Same.{all_found}
use Rattle.set_findings.specs.Alone.{entries_alone, index_alone}
use Rattle.set_check.specs.declared.finding.Finding.{Finding}
use Rattle.set_findings.specs.Findings.{AreFound, IsFindingOf, found_place}
use Rattle.set_findings.specs.Jobs.{HasFewSets, jobs_of}
use Rattle.set_findings.proofs.work.worked_out.Goals as goal

pub check_jobs-requires-clause-sets : goal.check_jobs-requires-clause-sets
check_jobs-requires-clause-sets g c κs within =
    let s = c.requires.settled in
    subst (λ (i : IndexValue). All HasFewSets i.entries) (sym s.4) (few_sets s.0 c.args.guides.now s.1 s.2 s.3)

pub checks_by-requires-clause-spans : goal.checks_by-requires-clause-spans
checks_by-requires-clause-spans g c κs within =
    let s = c.requires.settled in
    subst AreSpans (sym c.as_slice.ensures.value)
    (c.in-Ok.ensures.spans
    (subst (λ (i : IndexValue). All (HasItsSpans i.text) i.entries) (sym s.4) (spans_alone s.0 c.args.guides.now s.1 s.2)))

pub checks_by-requires-clause-places : goal.checks_by-requires-clause-places
checks_by-requires-clause-places g c κs within =
    let s = c.requires.settled in
    subst (λ (jobs : List CheckJob). map place_of jobs ≡ places_of c.args.index.now) (sym c.as_slice.ensures.value)
    (c.in-Ok.ensures.places s.1.entries (ap (λ (i : IndexValue). i.entries) s.4))

pub tell_each-requires : goal.tell_each-requires
tell_each-requires g c =
    let s = c.requires.settled in
    let done = c.in_ok-done.field-0 in
    ap (λ (l : List Finding). map found_place l) c.as_mut_slice.ensures.value
    ∙ found_places c.in-Ok.jobs.items done.done.items
    (c.in_ok-done.ensures.done ∙ ap (λ (l : List CheckJob). map job_value l) c.as_slice.ensures.value)
    ∙ c.in-Ok.ensures.places s.1.entries (ap (λ (i : IndexValue). i.entries) s.4)
    ∙ ap places_of (sym c.in_ok-done.ensures.full)

pub returns : goal.returns
returns g c text plain is settled by =
    let setup = c.args.guides.now in
    let faults = c.args.faults.now in
    let done = c.in_ok-done.field-0.done.items in
    let findings = c.tell_each.new.findings in
    let asked : map job_of done ≡ jobs_of plain.text setup (entries_alone setup plain.entries)
    = c.in_ok-done.ensures.done ∙ ap (λ (l : List CheckJob). map job_value l) c.as_slice.ensures.value
    ∙ c.in-Ok.ensures.jobs ∙ ap (λ (i : IndexValue). jobs_of i.text setup i.entries) settled in
    let found : AllZip (IsFindingOf (index_alone setup plain) faults) done findings
    = subst (λ (i : IndexValue). AllZip (IsFindingOf i faults) done findings) (c.in_ok-done.ensures.full ∙ settled)
    (subst (λ (l : List Finding). AllZip (IsFindingOf c.in_ok-done.field-0.full.index faults) l findings) c.as_mut_slice.ensures.value
    c.tell_each.ensures) in
    let count : c.in_ok-done.field-0.done.len ≡ length findings = omega (arith, c.as_mut_slice.ensures.len, c.tell_each.auto.findings) in
    subst (AreFound setup plain faults)
    (sym (ap (λ (n : ℕ). take n (findings ++ drop (length findings) done)) count
    ∙ take-append_seam findings (drop (length findings) done)))
    (all_found text setup plain faults done findings is (record { settled = by; done = asked; found = found }))
