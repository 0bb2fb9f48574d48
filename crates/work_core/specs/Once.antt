-- Own: what is looked at to see that all is done. Private.
use Rattle.std.specs.Prelude.{ℕ, ltb, ◌==◌, ◌&&◌, Bool, true, List, [], ◌∷◌, Option, Some, None}
use Rattle.hub_kinds.specs.declared.place.Place.{Place}
use Rattle.work_core.specs.Complete.{job_places, times_place}
use Rattle.work_core.specs.Core.{was_recorded}
use Rattle.work_core.specs.declared.state.Finished.{Finished}

abbrev pub none_beyond : ℕ → List Finished → Bool
none_beyond count [] = true
none_beyond count (f ∷ fs) = ltb f.job count && none_beyond count fs

abbrev pub once_recorded : List Place → Option Place → Bool
once_recorded recorded None = true
once_recorded recorded (Some p) = times_place p recorded == 1

abbrev pub each_recorded : List Place → List (Option Place) → Bool
each_recorded recorded [] = true
each_recorded recorded (job ∷ jobs) = once_recorded recorded job && each_recorded recorded jobs

abbrev pub none_other : List (Option Place) → List Place → Bool
none_other jobs [] = true
none_other jobs (p ∷ ps) = was_recorded (job_places jobs) p && none_other jobs ps
