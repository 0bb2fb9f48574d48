-- The failures of gathering (own): the line that each prints, and the status that it ends with.
use Rattle.std.specs.Prelude.{ℕ, ◌≡◌, ◌≢◌, ◌==◌, ◌||◌, IsTrue, List, [], ◌++◌, codes}
use Rattle.std.specs.declared.io.ErrorKind.{ErrorKind}
use Rattle.std.specs.declared.io.ErrorKind.TheVariants.{OutOfMemory}
use Rattle.std.specs.Borrow.{Bor}
use Rattle.gather_files.specs.declared.fault.GatherFault.{GatherFault}
use Rattle.gather_files.specs.declared.fault.GatherFault.TheVariants as fault
use Rattle.file_names.specs.Shown.{shown}
use Rattle.gather_command.specs.declared.failure.Failure.{Failure}
use Rattle.gather_command.specs.declared.failure.Failure.TheVariants as failure

-- what the line says before a path, the path, and what after it
abbrev pub before_path : Failure → List ℕ
before_path (failure.Input path) = codes "nighthub_gather: input "
before_path (failure.TooLong path) = codes "nighthub_gather: input "
before_path (failure.Output path) = codes "nighthub_gather: output "
before_path (failure.There path) = codes "nighthub_gather: output "
before_path (failure.PartThere path) = codes "nighthub_gather: output "
before_path failure.Memory = codes "nighthub_gather: memory"

abbrev pub path_of : Failure → List ℕ
path_of (failure.Input path) = path.now
path_of (failure.TooLong path) = path.now
path_of (failure.Output path) = path.now
path_of (failure.There path) = path.now
path_of (failure.PartThere path) = path.now
path_of failure.Memory = []

abbrev pub after_path : Failure → List ℕ
after_path (failure.Input path) = codes "\n"
after_path (failure.TooLong path) = codes " too long\n"
after_path (failure.Output path) = codes "\n"
after_path (failure.There path) = codes " is there already\n"
after_path (failure.PartThere path) = codes ".part is there already\n"
after_path failure.Memory = codes "\n"

-- the line on standard error
abbrev pub line_of : Failure → List ℕ
line_of f = before_path f ++ (shown (path_of f) ++ after_path f)

abbrev pub status_of : Failure → ℕ
status_of (failure.Input path) = 4
status_of (failure.TooLong path) = 4
status_of (failure.Output path) = 5
status_of (failure.There path) = 5
status_of (failure.PartThere path) = 5
status_of failure.Memory = 6

-- a status: 0 or 1, or that of a failure
abbrev pub IsStatus : ℕ → Type 0
IsStatus n = IsTrue (n == 0 || (n == 1 || (n == 2 || (n == 4 || (n == 5 || n == 6)))))

-- a fault of the system is out of memory, or represents another failure
pub record IsMemoryOr (kind : ErrorKind) (other failed : Failure) : Type 0 where
  pub memory : kind ≡ OutOfMemory → failed ≡ failure.Memory
  pub other_fault : kind ≢ OutOfMemory → failed ≡ other

-- what a file of a day fails by that isn't gathered into another
abbrev pub failure_of : GatherFault → (file out : Bor (List ℕ)) → Failure
failure_of fault.Read file out = failure.Input file
failure_of fault.TooLong file out = failure.TooLong file
failure_of fault.Output file out = failure.Output out
failure_of fault.NoMemory file out = failure.Memory

-- a failure of the file at one path, which is put into another
abbrev pub IsOfFile : (file out : Bor (List ℕ)) → Failure → Type 0
IsOfFile file out failed = (fault : GatherFault) × (failed ≡ failure_of fault file out)
