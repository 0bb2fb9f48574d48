-- X12.6, transaction set: jobs at the places of an index, and what their answers were asked (own).
use Rattle.std.specs.Prelude.{ℕ, Option, Some, option_map}
use Rattle.std.specs.Option.{option_copied}
use Rattle.hub_kinds.specs.declared.place.Place.{Place}
use Rattle.set_check.specs.Checked.{SetAsked, asked_by}
use Rattle.set_check.specs.declared.finding.Finding.{Finding}
use Rattle.worker_pool.specs.declared.job.CheckJob.{CheckJob}
use Rattle.worker_pool.specs.declared.job.SetJob.{SetJob}

-- a place, and how its set is checked, where it is a set's
pub record JobValue : Type 0 where
  pub place : Place
  pub set : Option SetAsked

abbrev pub set_asked : SetJob → SetAsked
set_asked s = record { text = s.text.now; span = s.span; guide = option_copied s.guide }

abbrev pub job_value : CheckJob → JobValue
job_value j = record { place = j.place; set = option_map set_asked j.set }

-- the job that found this
abbrev pub job_of : Finding → JobValue
job_of f = record { place = f.place; set = option_map asked_by f.checked }

abbrev pub number_of : Finding → ℕ
number_of f = f.number

-- the place of a job, as a job of any pool may have one
abbrev pub slot_of : CheckJob → Option Place
slot_of j = Some j.place

abbrev pub place_of : CheckJob → Place
place_of j = j.place
