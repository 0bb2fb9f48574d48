-- One worker and one job, with a place or without: what is enabled, what each event leaves, and when all is done.
use Rattle.std.proofs.Common.{◌≡◌, true, false, refl, List, [], ◌∷◌, Option, Some, None, arith}
use Rattle.hub_kinds.specs.declared.place.Place.{Place}
use Rattle.work_core.specs.declared.event.Event.TheVariants.{Claim, Record, Finish, Refused}
use Rattle.work_core.specs.Complete.{IsDone, jobs_in, claimed_in}
use Rattle.work_core.specs.Core.{Core, fresh, is_enabled, run, stepped, worker_with}

abbrev place : Place
place = record { isa = 1; gs = 0; st = 0 }

abbrev other : Place
other = record { isa = 1; gs = 1; st = 0 }

abbrev jobs : List (Option Place)
jobs = Some place ∷ []

abbrev start : Core
start = fresh jobs 1

abbrev claimed : Core
claimed = stepped start (Claim 0)

abbrev recorded : Core
recorded = stepped claimed (Record 0 place)

abbrev finished : Core
finished = stepped recorded (Finish 0 0)

-- only a claim is enabled at first, by a worker that is there
claims : is_enabled start (Claim 0) ≡ true
claims = refl

absent : is_enabled start (Claim 1) ≡ false
absent = refl

too_early : is_enabled start (Finish 0 0) ≡ false
too_early = refl

-- after it the job's own place, once, and nothing is finished before
records : is_enabled claimed (Record 0 place) ≡ true
records = refl

another_place : is_enabled claimed (Record 0 other) ≡ false
another_place = refl

not_recorded : is_enabled claimed (Finish 0 0) ≡ false
not_recorded = refl

twice : is_enabled recorded (Record 0 place) ≡ false
twice = refl

finishes : is_enabled recorded (Finish 0 0) ≡ true
finishes = refl

another_job : is_enabled recorded (Finish 0 1) ≡ false
another_job = refl

holds_none : is_enabled finished (Refused 0) ≡ false
holds_none = refl

all : run start (Claim 0 ∷ Record 0 place ∷ Finish 0 0 ∷ []) ≡ finished
all = refl

-- what isn't enabled changes nothing
passed_over : run start (Finish 0 0 ∷ Claim 0 ∷ Record 0 place ∷ Finish 0 0 ∷ []) ≡ finished
passed_over = refl

lists : (claimed_in finished ≡ 0 ∷ []) × (finished.recorded ≡ place ∷ []) × (jobs_in finished.finished ≡ 0 ∷ [])
lists = (refl, refl, refl)

-- a claim past the last job ends the worker, and so does a refusal
ends : (run finished (Claim 0 ∷ [])).workers ≡ worker_with None true ∷ []
ends = refl

refuses : (stepped claimed (Refused 0)).workers ≡ worker_with None true ∷ []
refuses = refl

-- the job of a worker that was refused is never done
refused_is_not_done : IsDone (run (fresh (None ∷ []) 1) (Claim 0 ∷ Refused 0 ∷ [])) → ⊥
refused_is_not_done h = let e : 0 ≡ 1 = h.finished_once 0 in omega (arith, e)

-- without a place it is finished at once
no_place : is_enabled (run (fresh (None ∷ []) 1) (Claim 0 ∷ [])) (Finish 0 0) ≡ true
no_place = refl
