-- X12.6, transaction set: jobs whose sets are in their spans, at places of an index (own).
use Rattle.std.specs.Prelude.{List, Option, Some, None, Contains}
use Rattle.std.specs.List.{All}
use Rattle.hub_kinds.specs.declared.place.Place.{Place}
use Rattle.x12_segs.specs.Words.{IsSetSpan}
use Rattle.worker_pool.specs.declared.job.CheckJob.{CheckJob}
use Rattle.worker_pool.specs.declared.job.SetJob.{SetJob}

-- the set of a job is in its span
abbrev pub IsSpanOf : Option SetJob → Type 0
IsSpanOf None = Unit {0}
IsSpanOf (Some s) = IsSetSpan s.text.now s.span

abbrev pub IsJobSpan : CheckJob → Type 0
IsJobSpan j = IsSpanOf j.set

abbrev pub AreSpans : List CheckJob → Type 0
AreSpans jobs = All IsJobSpan jobs

-- each job's place is one of these
abbrev pub ArePlaced : List Place → List CheckJob → Type 0
ArePlaced places jobs = All (λ j. Contains places j.place) jobs
