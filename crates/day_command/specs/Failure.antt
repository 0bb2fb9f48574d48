-- The program's failures (own): the line that each prints, and the status that it ends with.
use Rattle.std.specs.Prelude.{ℕ, ◌==◌, ◌||◌, IsTrue, List, codes}
use Rattle.night_review.specs.declared.fault.ReviewFault.{ReviewFault}
use Rattle.night_review.specs.declared.fault.ReviewFault.TheVariants as review
use Rattle.sets_again.specs.declared.fault.AgainFault.{AgainFault}
use Rattle.sets_again.specs.declared.fault.AgainFault.TheVariants as again
use Rattle.day_command.specs.declared.failure.Failure.{Failure}
use Rattle.day_command.specs.declared.failure.Failure.TheVariants as failure

-- the line on standard error
abbrev pub line_of : Failure → List ℕ
line_of failure.Input = codes "nighthub_day: input: NIGHTS can't be listed, or has a name that isn't UTF-8\n"
line_of failure.Night = codes "nighthub_day: input: the night has no track.csv and out/ that can be read\n"
line_of failure.Papers = codes "nighthub_day: input: the night has no from/in.x12 and track.csv that can be read\n"
line_of failure.Unfit = codes "nighthub_day: input: the night's track.csv isn't the table of its from/in.x12\n"
line_of failure.Totals = codes "nighthub_day: input: the night's track.csv doesn't give the totals in its file total\n"
line_of failure.Clock = codes "nighthub_day: input: the clock can't be read\n"
line_of failure.Stderr = codes "nighthub_day: output stderr\n"
line_of failure.Memory = codes "nighthub_day: memory\n"

-- the failure of nights that aren't looked at
abbrev pub of_review : ReviewFault → Failure
of_review review.Unlisted = failure.Input
of_review review.Clock = failure.Clock
of_review review.Memory = failure.Memory

-- the failure of sets that don't go in again
abbrev pub of_again : AgainFault → Failure
of_again again.Unfit = failure.Unfit
of_again again.Memory = failure.Memory

abbrev pub status_of : Failure → ℕ
status_of failure.Input = 4
status_of failure.Night = 4
status_of failure.Papers = 4
status_of failure.Unfit = 4
status_of failure.Totals = 4
status_of failure.Clock = 4
status_of failure.Stderr = 5
status_of failure.Memory = 6

-- a status: 0 or 1, or that of a failure
abbrev pub IsStatus : ℕ → Type 0
IsStatus n = IsTrue (n == 0 || (n == 1 || (n == 2 || (n == 4 || (n == 5 || n == 6)))))

-- a failure before anything is printed
abbrev pub IsBefore : Failure → Type 0
IsBefore failure.Stderr = ⊥
IsBefore _ = Unit {0}
