use Rattle.std.proofs.Common.{◌++◌, ◌∷◌, [], List, map, take, ap, sym, subst, ◌∙◌}
use Rattle.std.proofs.lemmas.List.{map-append, take_more}
use Rattle.std.proofs.lemmas.List.Elements.{All-push}
use Rattle.hub_kinds.specs.declared.place.Place.{Place}
use Rattle.worker_pool.specs.Jobs.{place_of}
use Rattle.worker_pool.specs.Spans.{AreSpans, IsJobSpan}
use Rattle.trial_workers.proofs.checking.jobs_of.Goals as goal

pub loop-place-preserved : goal.loop-place-preserved
loop-place-preserved c =
    let was = c.loop-place.invariant in
    let i = c.loop-place.place-index in
    let job = c.job_at.result in
    let pushed = c.in_ok-push.ensures.items in (
      subst AreSpans (sym pushed) (All-push IsJobSpan c.loop-place.jobs.items job was.0 c.job_at.ensures.1),
      ap (map place_of) pushed ∙ map-append place_of c.loop-place.jobs.items (job ∷ [])
          ∙ ap (λ (l : List Place). l ++ place_of job ∷ []) was.1
          ∙ ap (λ (p : Place). take i c.args.places.now ++ p ∷ []) c.job_at.ensures.0
          ∙ sym (take_more c.args.places.now i (record { isa = 0; gs = 0; st = 0 }) c.loop-place-test.true),
    )
