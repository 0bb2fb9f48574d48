-- Why nights aren't archived (own): the lines that are printed, and the status.
use Rattle.std.specs.Prelude.{ℕ, ◌==◌, ◌||◌, IsTrue, List, ◌++◌, Some, codes}
use Rattle.hub_folder.specs.Failure as hub
use Rattle.hub_archive.specs.declared.refusal.Cause.{Cause}
use Rattle.hub_archive.specs.declared.refusal.Cause.TheVariants as cause
use Rattle.hub_archive.specs.declared.refusal.Refusal.{Refusal}
use Rattle.hub_archive.specs.declared.refusal.Refusal.TheVariants as refusal

-- what a line says after the path that it names
abbrev pub rest_of : Cause → List ℕ
rest_of cause.Breaches = codes ": the nights don't go on, so none is archived\n"
rest_of cause.Order = codes ": the names of its nights aren't in their order, so none is archived\n"
rest_of cause.Record = codes ": its record can't be read, so no night is archived\n"
rest_of cause.Unwritten = codes ": output: the nights can't be archived\n"
rest_of cause.Unmoved = codes ": output: archived nights can't be moved to archive\n"

abbrev pub cause_status : Cause → ℕ
cause_status cause.Breaches = 78
cause_status cause.Order = 78
cause_status cause.Record = 78
cause_status cause.Unwritten = 5
cause_status cause.Unmoved = 5

-- the line of a cause
abbrev pub line_of : Cause → (path : List ℕ) → List ℕ
line_of cause path = hub.named (Some path) (rest_of cause)

-- the lines of a check come before that of nights that don't continue
abbrev pub lines_of : Refusal → List ℕ
lines_of (refusal.Hub failure) = hub.lines_of failure
lines_of (refusal.Named cause path) = line_of cause path
lines_of (refusal.NotSound report path) = report ++ line_of cause.Breaches path

abbrev pub status_of : Refusal → ℕ
status_of (refusal.Hub failure) = hub.status_of failure
status_of (refusal.Named cause path) = cause_status cause
status_of (refusal.NotSound report path) = cause_status cause.Breaches

-- the statuses of refusals
abbrev pub IsStatus : ℕ → Type 0
IsStatus n = IsTrue (n == 3 || (n == 4 || (n == 5 || (n == 6 || (n == 75 || n == 78)))))
