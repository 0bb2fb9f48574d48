-- Own: jobs that workers claim, record and finish, and what each event does to them. It is the rule for any pool of workers.
use Rattle.std.specs.Prelude.{ℕ, ◌+◌, ◌==◌, ◌&&◌, not, ltb, Bool, true, false, List, [], ◌∷◌, ◌++◌, Option, Some, None, is_none, is_some}
use Rattle.std.specs.Prelude.{get_or, replicate, slice_set, slice_get, length, if◌then◌else◌}
use Rattle.std.specs.List.{list_any}
use Rattle.hub_kinds.specs.declared.place.Place.{Place}
use Rattle.work_core.specs.declared.event.Event.{Event}
use Rattle.work_core.specs.declared.event.Event.TheVariants.{Claim, Record, Finish, Refused}
use Rattle.work_core.specs.declared.event.Stepped.{Stepped}
use Rattle.work_core.specs.declared.event.Stepped.TheVariants.{Took, Idle}
use Rattle.work_core.specs.declared.state.Worker.{Worker}
use Rattle.work_core.specs.declared.state.Finished.{Finished}

-- jobs, each with its index place where it has one; how many claims there were; the workers; the places recorded, and the jobs
-- finished, each with its worker, both in order
pub record Core : Type 0 where
  pub jobs : List (Option Place)
  pub next : ℕ
  pub workers : List Worker
  pub recorded : List Place
  pub finished : List Finished

abbrev pub worker_with : Option ℕ → Bool → Worker
worker_with holds ended = record { holds = holds; ended = ended }

-- a worker that isn't there holds nothing and has ended
abbrev pub worker_at : List Worker → ℕ → Worker
worker_at workers w = get_or workers w (worker_with None true)

abbrev pub same_place : Place → Place → Bool
same_place p q = (p.isa == q.isa) && ((p.gs == q.gs) && (p.st == q.st))

abbrev pub was_recorded : List Place → Place → Bool
was_recorded recorded p = list_any (same_place p) recorded

abbrev pub place_in : Option (Option Place) → Option Place
place_in None = None
place_in (Some place) = place

-- the place of a job
abbrev pub place_of : List (Option Place) → Option ℕ → Option Place
place_of jobs None = None
place_of jobs (Some j) = place_in (slice_get jobs j)

abbrev pub is_place : Option Place → Place → Bool
is_place None p = false
is_place (Some q) p = same_place q p

abbrev pub is_job : Option ℕ → ℕ → Bool
is_job None j = false
is_job (Some k) j = k == j

-- a job without a place may be finished at once, another one once its place is recorded
abbrev pub may_finish : List Place → Option Place → Bool
may_finish recorded None = true
may_finish recorded (Some p) = was_recorded recorded p

-- a worker claims where it holds nothing and hasn't ended, records the place of the job that it holds where that isn't recorded,
-- finishes the job that it holds, and is refused where it holds one
abbrev pub is_enabled : Core → Event → Bool
is_enabled c (Claim w) = let v = worker_at c.workers w in is_none v.holds && not v.ended
is_enabled c (Record w p) = is_place (place_of c.jobs (worker_at c.workers w).holds) p && not (was_recorded c.recorded p)
is_enabled c (Finish w j) = is_job (worker_at c.workers w).holds j && may_finish c.recorded (place_of c.jobs (Some j))
is_enabled c (Refused w) = is_some (worker_at c.workers w).holds

-- a claim of a number that names a job gives that job, another one ends the worker
abbrev pub claimed_at : ℕ → ℕ → Worker
claimed_at next count = if ltb next count then worker_with (Some next) false else worker_with None true

abbrev pub with_worker : Core → ℕ → ℕ → Worker → Core
with_worker c next w v = record {
  jobs = c.jobs;
  next = next;
  workers = slice_set c.workers w v;
  recorded = c.recorded;
  finished = c.finished;
}

abbrev pub with_record : Core → Place → Core
with_record c p = record { jobs = c.jobs; next = c.next; workers = c.workers; recorded = c.recorded ++ p ∷ []; finished = c.finished }

abbrev pub with_finished : Core → Finished → Core
with_finished c f = record { jobs = c.jobs; next = c.next; workers = c.workers; recorded = c.recorded; finished = c.finished ++ f ∷ [] }

-- what an enabled event does
abbrev pub after : Core → Event → Core
after c (Claim w) = with_worker c (c.next + 1) w (claimed_at c.next (length c.jobs))
after c (Record w p) = with_record c p
after c (Finish w j) =
    with_finished (with_worker c c.next w (worker_with None (worker_at c.workers w).ended)) (record { worker = w; job = j })
after c (Refused w) = with_worker c c.next w (worker_with None true)

-- an event that isn't enabled changes nothing
abbrev pub stepped : Core → Event → Core
stepped c e = if is_enabled c e then after c e else c

abbrev pub told : Bool → Stepped
told true = Took
told false = Idle

abbrev pub run : Core → List Event → Core
run c [] = c
run c (e ∷ es) = run (stepped c e) es

-- that many workers, of which none holds a job or has ended
abbrev pub idle_workers : ℕ → List Worker
idle_workers n = replicate n (worker_with None false)

abbrev pub fresh : List (Option Place) → ℕ → Core
fresh jobs workers = record { jobs = jobs; next = 0; workers = idle_workers workers; recorded = []; finished = [] }
