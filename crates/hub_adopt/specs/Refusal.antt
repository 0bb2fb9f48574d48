-- Why old nights aren't adopted (own): the lines that are printed, and the status.
use Rattle.std.specs.Prelude.{ℕ, ◌==◌, ◌||◌, IsTrue, List, ◌++◌, Some, codes}
use Rattle.hub_folder.specs.Failure as hub
use Rattle.hub_adopt.specs.declared.refusal.Cause.{Cause}
use Rattle.hub_adopt.specs.declared.refusal.Cause.TheVariants as cause
use Rattle.hub_adopt.specs.declared.refusal.Refusal.{Refusal}
use Rattle.hub_adopt.specs.declared.refusal.Refusal.TheVariants as refusal

-- what a line says after the path that it names
abbrev pub rest_of : Cause → List ℕ
rest_of cause.Unlisted = codes " can't be listed, or has a name that isn't UTF-8\n"
rest_of cause.NoNight = codes " has no night\n"
rest_of cause.NotDone = codes " isn't a night that is done\n"
rest_of cause.Breaches = codes ": its nights don't go on, so no night is adopted\n"
rest_of cause.Differs = codes " isn't what the night gives by its from/, so the night isn't adopted\n"
rest_of cause.Other = codes " isn't the old night in its place, so no night is adopted\n"

abbrev pub cause_status : Cause → ℕ
cause_status cause.Unlisted = 4
cause_status cause.NoNight = 78
cause_status cause.NotDone = 78
cause_status cause.Breaches = 78
cause_status cause.Differs = 78
cause_status cause.Other = 78

-- the line of a cause
abbrev pub line_of : Cause → (path : List ℕ) → List ℕ
line_of cause path = hub.named (Some path) (rest_of cause)

-- the lines of a check come before that of nights that don't continue
abbrev pub lines_of : Refusal → List ℕ
lines_of (refusal.Hub failure) = hub.lines_of failure
lines_of (refusal.Named cause path) = line_of cause path
lines_of (refusal.NotSound report path) = report ++ line_of cause.Breaches path

abbrev pub status_of : Refusal → ℕ
status_of (refusal.Hub failure) = hub.status_of failure
status_of (refusal.Named cause path) = cause_status cause
status_of (refusal.NotSound report path) = cause_status cause.Breaches

-- the statuses of refusals
abbrev pub IsStatus : ℕ → Type 0
IsStatus n = IsTrue (n == 3 || (n == 4 || (n == 5 || (n == 6 || (n == 75 || n == 78)))))
