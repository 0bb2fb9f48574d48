-- The program's failures (own): the line that each prints, and the status that it ends with.
use Rattle.std.specs.Prelude.{ℕ, ◌==◌, ◌||◌, IsTrue, List, [], ◌++◌, Option, Some, None, codes}
use Rattle.file_names.specs.Shown.{shown}
use Rattle.hub_folder.specs.declared.failure.Failure.{Failure}
use Rattle.hub_folder.specs.declared.failure.Failure.TheVariants as failure

-- what a line says after the path that it names, or all of it if it names none
abbrev pub rest_of : Failure → List ℕ
rest_of (failure.NoHub hub) = codes " isn't a hub: it has no hub.toml that can be read\n"
rest_of (failure.IsHub hub) = codes " is a hub already, or hub.toml and nights can't be made in it\n"
rest_of (failure.Busy hub) = codes ": another run has it\n"
rest_of (failure.Lock hub) = codes ": its lock can't be had\n"
rest_of (failure.Nights hub) = codes ": its folder nights can't be listed, or has a name that isn't UTF-8\n"
rest_of (failure.Unread path) = codes " can't be read\n"
rest_of (failure.Refused path) = codes " is refused: nighthub_check says why\n"
rest_of (failure.Setup hub) = codes ": its setup and its guides are refused together: nighthub_check says why\n"
rest_of (failure.NotSound report) = codes "nighthub_day: with this night the nights don't go on, so it isn't kept\n"
rest_of (failure.AllAside lines) = codes "nighthub_day: each file is set aside, so no night is made\n"
rest_of (failure.Chain path) = codes " isn't what a night leaves\n"
rest_of (failure.Given path) = codes " can't be moved to given-up\n"
rest_of (failure.Gone path) = codes " was the last night, and isn't there\n"
rest_of (failure.Records report) = codes "nighthub_day: the nights aren't what their records say, so no night is made\n"
rest_of (failure.Noted hub) = codes ": its file last can't be written\n"
rest_of failure.NoNight = codes "nighthub_day: there is no night to give up\n"
rest_of failure.TooMany = codes "nighthub_day: a hub has no more than 999999 nights\n"
rest_of failure.Record = codes "nighthub_day: the name of a guide file can't be written down\n"
rest_of failure.InputTooLong = codes "nighthub_day: input: it has more than 4294967295 bytes\n"
rest_of failure.Clock = codes "nighthub_day: input: the clock can't be read\n"
rest_of failure.Keep = codes "nighthub_day: output: the night can't be kept\n"
rest_of failure.Stdout = codes "nighthub_day: output stdout\n"
rest_of failure.Thread = codes "nighthub_day: thread\n"
rest_of failure.Memory = codes "nighthub_day: memory\n"

-- the path that a failure names
abbrev pub path_in : Failure → Option (List ℕ)
path_in (failure.NoHub hub) = Some hub
path_in (failure.IsHub hub) = Some hub
path_in (failure.Busy hub) = Some hub
path_in (failure.Lock hub) = Some hub
path_in (failure.Nights hub) = Some hub
path_in (failure.Unread path) = Some path
path_in (failure.Refused path) = Some path
path_in (failure.Setup hub) = Some hub
path_in (failure.Chain path) = Some path
path_in (failure.Given path) = Some path
path_in (failure.Gone path) = Some path
path_in (failure.Noted hub) = Some hub
path_in _ = None

-- a line names a path, after the program
abbrev pub named : (path : Option (List ℕ)) → (rest : List ℕ) → List ℕ
named None rest = rest
named (Some path) rest = codes "nighthub_day: " ++ (shown path ++ rest)

-- the lines of a check come before that of a night that isn't kept, and those on files or records before that of a night that isn't made
abbrev pub report_in : Failure → List ℕ
report_in (failure.NotSound report) = report
report_in (failure.AllAside lines) = lines
report_in (failure.Records report) = report
report_in _ = []

-- what is printed on standard error
abbrev pub lines_of : Failure → List ℕ
lines_of f = report_in f ++ named (path_in f) (rest_of f)

abbrev pub status_of : Failure → ℕ
status_of (failure.NoHub hub) = 78
status_of (failure.IsHub hub) = 78
status_of (failure.Busy hub) = 75
status_of (failure.Lock hub) = 78
status_of (failure.Nights hub) = 4
status_of (failure.Unread path) = 4
status_of (failure.Refused path) = 3
status_of (failure.Setup hub) = 3
status_of (failure.NotSound report) = 78
status_of (failure.AllAside lines) = 78
status_of (failure.Chain path) = 78
status_of (failure.Given path) = 5
status_of (failure.Gone path) = 78
status_of (failure.Records report) = 78
status_of (failure.Noted hub) = 5
status_of failure.NoNight = 78
status_of failure.TooMany = 78
status_of failure.Record = 78
status_of failure.InputTooLong = 4
status_of failure.Clock = 4
status_of failure.Keep = 5
status_of failure.Stdout = 5
status_of failure.Thread = 6
status_of failure.Memory = 6

-- the statuses of failures
abbrev pub IsStatus : ℕ → Type 0
IsStatus n = IsTrue (n == 2 || (n == 3 || (n == 4 || (n == 5 || (n == 6 || (n == 75 || n == 78))))))

-- a failure that comes before anything is printed on standard output
abbrev pub IsUnprinted : Failure → Type 0
IsUnprinted failure.Stdout = ⊥
IsUnprinted _ = Unit {0}

-- and that doesn't say that each file is set aside
abbrev pub IsBefore : Failure → Type 0
IsBefore failure.Stdout = ⊥
IsBefore (failure.AllAside lines) = ⊥
IsBefore _ = Unit {0}
