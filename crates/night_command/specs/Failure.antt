-- The program's failures (own): the line that each prints, and the status that it ends with.
use Rattle.std.specs.Prelude.{ℕ, ◌≡◌, ◌≢◌, List, [], ◌++◌, Option, None, Some, Result, Ok, IsErr, codes, decimal}
use Rattle.std.specs.Borrow.{Bor}
use Rattle.std.specs.declared.io.ErrorKind.{ErrorKind}
use Rattle.std.specs.declared.io.ErrorKind.TheVariants.{OutOfMemory}
use Rattle.guide_tree.specs.Faults as guide
use Rattle.guide_tree.specs.declared.fault.GuideFault.{GuideFault}
use Rattle.guide_tree.specs.declared.fault.GuideFault.TheVariants as own
use Rattle.guide_toml.specs.Refusals as guide_file
use Rattle.guide_toml.specs.declared.fault.GuideFileFault.{GuideFileFault}
use Rattle.guide_toml.specs.declared.fault.GuideFileFault.TheVariants as fault
use Rattle.toml_keys.specs.Answers.{refusal_number}
use Rattle.partner_setup.specs.Refusals.{setup_number}
use Rattle.toml_keys.specs.declared.file_fault.FileFault.{FileFault}
use Rattle.toml_keys.specs.declared.file_fault.FileFault.TheVariants as file
use Rattle.partner_setup.specs.declared.setup_fault.SetupFault.{SetupFault}
use Rattle.partner_setup.specs.declared.setup_fault.SetupFault.TheVariants as setup
use Rattle.night_command.specs.declared.failure.Failure.{Failure}
use Rattle.night_command.specs.declared.failure.Failure.TheVariants as failure
use Rattle.night_command.specs.declared.put_fault.PutFault.{PutFault}
use Rattle.night_command.specs.declared.put_fault.PutFault.TheVariants as put
use Rattle.hub_run.specs.declared.run_fault.RunFault.{RunFault}
use Rattle.hub_run.specs.declared.run_fault.RunFault.TheVariants as run

-- what failed
abbrev pub subject_of : Failure → List ℕ
subject_of failure.Usage = codes "usage"
subject_of (failure.Guide path refusal) = codes "guide "
subject_of (failure.SetupFile refusal) = codes "setup file"
subject_of (failure.CountersFile refusal) = codes "counters file"
subject_of (failure.Setup refusal) = codes "setup"
subject_of failure.Input = codes "input"
subject_of failure.InputTooLong = codes "input too long"
subject_of (failure.Output name) = codes "output "
subject_of failure.Stdout = codes "output stdout"
subject_of failure.Memory = codes "memory"
subject_of failure.Thread = codes "thread"

-- the path of a guide, as it was given, or the name of a file that is written
abbrev pub name_of : Failure → List ℕ
name_of (failure.Guide path refusal) = path.now
name_of (failure.Output name) = name
name_of _ = []

-- a number after a space
abbrev pub number_text : ℕ → List ℕ
number_text n = codes " " ++ decimal n

-- the number of a file's refusal, and 0 where the file can't be read
abbrev pub file_number : Option FileFault → ℕ
file_number None = 0
file_number (Some refusal) = refusal_number refusal

abbrev pub guide_file_number : Option GuideFileFault → ℕ
guide_file_number None = 0
guide_file_number (Some refusal) = guide_file.refusal_number refusal

-- after a point, the number of a guide's own fault
abbrev pub own_number : Option GuideFileFault → List ℕ
own_number (Some (fault.Guide refused)) = codes "." ++ decimal (guide.refusal_number refused)
own_number _ = []

-- the number of the refusal
abbrev pub number_of : Failure → List ℕ
number_of (failure.Guide path refusal) = number_text (guide_file_number refusal) ++ own_number refusal
number_of (failure.SetupFile refusal) = number_text (file_number refusal)
number_of (failure.CountersFile refusal) = number_text (file_number refusal)
number_of (failure.Setup refusal) = number_text (setup_number refusal)
number_of _ = []

-- what failed, with its name and its number, up to the end of the line
abbrev pub cause_of : Failure → List ℕ
cause_of f = subject_of f ++ (name_of f ++ (number_of f ++ codes "\n"))

-- the line on standard error
abbrev pub line_of : Failure → List ℕ
line_of f = codes "nighthub: " ++ cause_of f

abbrev pub status_of : Failure → ℕ
status_of failure.Usage = 2
status_of (failure.Guide path refusal) = 3
status_of (failure.SetupFile refusal) = 3
status_of (failure.CountersFile refusal) = 3
status_of (failure.Setup refusal) = 3
status_of failure.Input = 4
status_of failure.InputTooLong = 4
status_of (failure.Output name) = 5
status_of failure.Stdout = 5
status_of failure.Memory = 6
status_of failure.Thread = 6

-- what reading the arguments may fail by
abbrev pub IsOfWords : Failure → Type 0
IsOfWords failure.Usage = Unit {0}
IsOfWords failure.Memory = Unit {0}
IsOfWords _ = ⊥

-- what a run may fail by whose arguments are a command line
abbrev pub IsOfRun : Failure → Type 0
IsOfRun failure.Usage = ⊥
IsOfRun _ = Unit {0}

-- what a refusal fails by: out of memory is never one of the file
abbrev pub own_failure : Bor (List ℕ) → GuideFault → Failure
own_failure path own.NoMemory = failure.Memory
own_failure path own.TooDeep = failure.Guide path (Some (fault.Guide own.TooDeep))
own_failure path own.TooMany = failure.Guide path (Some (fault.Guide own.TooMany))
own_failure path (own.BadBounds slot) = failure.Guide path (Some (fault.Guide (own.BadBounds slot)))
own_failure path (own.BadTrigger slot) = failure.Guide path (Some (fault.Guide (own.BadTrigger slot)))
own_failure path (own.Ambiguous a b) = failure.Guide path (Some (fault.Guide (own.Ambiguous a b)))
own_failure path (own.BadCondition slot) = failure.Guide path (Some (fault.Guide (own.BadCondition slot)))

abbrev pub guide_failure : Bor (List ℕ) → GuideFileFault → Failure
guide_failure path fault.NotToml = failure.Guide path (Some fault.NotToml)
guide_failure path (fault.Missing key slot) = failure.Guide path (Some (fault.Missing key slot))
guide_failure path (fault.WrongKind key slot) = failure.Guide path (Some (fault.WrongKind key slot))
guide_failure path (fault.Unknown key slot) = failure.Guide path (Some (fault.Unknown key slot))
guide_failure path (fault.Guide refused) = own_failure path refused
guide_failure path fault.NoMemory = failure.Memory

abbrev pub setup_file_failure : FileFault → Failure
setup_file_failure file.NoMemory = failure.Memory
setup_file_failure file.NotToml = failure.SetupFile (Some file.NotToml)
setup_file_failure (file.Missing key) = failure.SetupFile (Some (file.Missing key))
setup_file_failure (file.WrongKind key) = failure.SetupFile (Some (file.WrongKind key))
setup_file_failure (file.Unknown key) = failure.SetupFile (Some (file.Unknown key))

abbrev pub counters_failure : FileFault → Failure
counters_failure file.NoMemory = failure.Memory
counters_failure file.NotToml = failure.CountersFile (Some file.NotToml)
counters_failure (file.Missing key) = failure.CountersFile (Some (file.Missing key))
counters_failure (file.WrongKind key) = failure.CountersFile (Some (file.WrongKind key))
counters_failure (file.Unknown key) = failure.CountersFile (Some (file.Unknown key))

abbrev pub setup_failure : SetupFault → Failure
setup_failure setup.NoMemory = failure.Memory
setup_failure (setup.SamePartner place) = failure.Setup (setup.SamePartner place)
setup_failure (setup.BadDelimiters place) = failure.Setup (setup.BadDelimiters place)
setup_failure (setup.BadId owner) = failure.Setup (setup.BadId owner)
setup_failure (setup.BadGuides owner) = failure.Setup (setup.BadGuides owner)
setup_failure (setup.BadRoute place) = failure.Setup (setup.BadRoute place)
setup_failure (setup.BadCounter place) = failure.Setup (setup.BadCounter place)
setup_failure (setup.BadCap place) = failure.Setup (setup.BadCap place)

-- what putting a night's files fails by
abbrev pub put_failure : PutFault → Failure
put_failure (put.Output name) = failure.Output name
put_failure put.NoMemory = failure.Memory

-- what a run fails by
abbrev pub run_failure : RunFault → Failure
run_failure run.InputTooLong = failure.InputTooLong
run_failure run.NoMemory = failure.Memory
run_failure run.NoThread = failure.Thread
run_failure run.Read = failure.Input

-- what the night of a stream may fail by
abbrev pub IsOfNight : Failure → Type 0
IsOfNight failure.Input = Unit {0}
IsOfNight failure.InputTooLong = Unit {0}
IsOfNight (failure.Output name) = Unit {0}
IsOfNight failure.Memory = Unit {0}
IsOfNight failure.Thread = Unit {0}
IsOfNight _ = ⊥

-- what opening the input may fail by
abbrev pub IsOfInput : Failure → Type 0
IsOfInput failure.Input = Unit {0}
IsOfInput failure.InputTooLong = Unit {0}
IsOfInput failure.Memory = Unit {0}
IsOfInput _ = ⊥

-- a fault of the system is out of memory, or represents another failure
pub record IsMemoryOr (kind : ErrorKind) (other failed : Failure) : Type 0 where
  pub memory : kind ≡ OutOfMemory → failed ≡ failure.Memory
  pub other_fault : kind ≢ OutOfMemory → failed ≡ other

-- a fault of the system is out of memory, or leaves a file without bytes
pub record IsMissing {A E : Type 0} (kind : ErrorKind) (result : Result (Option A) E) : Type 0 where
  pub memory : kind ≡ OutOfMemory → IsErr result
  pub other_fault : kind ≢ OutOfMemory → result ≡ Ok None
