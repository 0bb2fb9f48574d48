use Rattle.std.proofs.Common.{ℕ, List, Some, map, sym, ap, subst, ◌∙◌}
use Rattle.std.specs.Prelude.{Contains, option_map, slice_get}
use Rattle.std.proofs.lemmas.Option.{slice_get-map}
use Rattle.env_index.specs.Words.{places_of}
use Rattle.hub_kinds.specs.declared.place.Place.{Place}
use Rattle.worker_pool.proofs.Naming.{each_at}
use Rattle.worker_pool.specs.Jobs.{JobValue}
use Rattle.worker_pool.proofs.checks.CheckingTask.run.Goals as goal

pub record_locked-requires : goal.record_locked-requires
record_locked-requires g c =
    let places = places_of g.J.Named.index in
    subst (λ (p : Place). Contains places p) (sym c.place.ensures)
    (each_at (λ j. Contains places (g.K.PlaceJob.asks j).place) c.self.inside.jobs.now c.args.number c.job_at-job.result.now
    c.job_at-job.ensures c.self.invariant.2)

pub check-requires-clause-ready : goal.check-requires-clause-ready
check-requires-clause-ready g c =
    each_at g.K.PlaceJob.is_ready c.self.inside.jobs.now c.args.number c.job_at-job.result.now c.job_at-job.ensures c.self.invariant.1

pub invariant_of-result : goal.invariant_of-result
invariant_of-result g c =
    let jobs = c.self.inside.jobs.now in
    let job = g.K.PlaceJob in
    let done = c.in-Ok-check.done in
    let told = c.in-Ok-check.ensures in
    ap (λ (l : List JobValue). slice_get l (job.number_of done)) (sym c.self.invariant.0)
    ∙ ap (λ (n : ℕ). slice_get (map job.asks jobs) n) told.1
    ∙ slice_get-map job.asks jobs c.args.number
    ∙ ap (option_map job.asks) c.job_at-job.ensures
    ∙ ap Some (sym told.0)
