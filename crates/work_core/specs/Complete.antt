-- Own: when all jobs are done, over plain lists: claimed jobs, recorded places, finished jobs.
use Rattle.std.specs.Prelude.{◌≡◌, ℕ, zero, suc, ◌+◌, min, List, [], ◌∷◌, Option, Some, None, map, length, if◌then◌else◌}
use Rattle.claim_desk.specs.Seats.{EachOnce, times}
use Rattle.hub_kinds.specs.declared.place.Place.{Place}
use Rattle.work_core.specs.declared.state.Finished.{Finished}
use Rattle.work_core.specs.Core.{Core, same_place, was_recorded}

-- how often a place is in a list
abbrev pub times_place : Place → List Place → ℕ
times_place p [] = 0
times_place p (q ∷ qs) = (if same_place p q then 1 else 0) + times_place p qs

-- the places of the jobs that have one
abbrev pub job_places : List (Option Place) → List Place
job_places [] = []
job_places (None ∷ jobs) = job_places jobs
job_places (Some p ∷ jobs) = p ∷ job_places jobs

-- each of some places is in a list once, and no other
abbrev pub AreOnce : List Place → List Place → Type 0
AreOnce places recorded = (p : Place) → times_place p recorded ≡ (if was_recorded places p then 1 else 0)

-- each job is claimed once and finished once, and no other; each job's place is recorded once, and no other
pub record Complete (jobs : List (Option Place)) (claimed : List ℕ) (recorded : List Place) (finished : List ℕ) : Type 0 where
  pub claimed_once : EachOnce (length jobs) claimed
  pub finished_once : EachOnce (length jobs) finished
  pub recorded_once : AreOnce (job_places jobs) recorded

abbrev pub below_from : (a count : ℕ) → List ℕ
below_from a zero = []
below_from a (suc n) = a ∷ below_from (a + 1) n

-- the numbers below a state's claims that name a job
abbrev pub claimed_in : Core → List ℕ
claimed_in c = below_from 0 (min c.next (length c.jobs))

abbrev pub jobs_in : List Finished → List ℕ
jobs_in finished = map (λ f. f.job) finished

-- a state in which all is done
abbrev pub IsDone : Core → Type 0
IsDone c = Complete c.jobs (claimed_in c) c.recorded (jobs_in c.finished)

-- the same places recorded, and the same jobs finished, each as often
pub record AreSame (recorded : List Place) (finished : List ℕ) (recorded' : List Place) (finished' : List ℕ) : Type 0 where
  pub places : (p : Place) → times_place p recorded ≡ times_place p recorded'
  pub jobs : (j : ℕ) → times j finished ≡ times j finished'
