-- The program's failures (own): the line that each prints, and the status that it ends with.
use Rattle.std.specs.Prelude.{ℕ, ◌==◌, ◌||◌, IsTrue, List, codes}
use Rattle.page_command.specs.declared.failure.Failure.{Failure}
use Rattle.page_command.specs.declared.failure.Failure.TheVariants as failure

-- what is printed on standard error
abbrev pub line_of : Failure → List ℕ
line_of failure.NoSample = codes "nighthub_page: no set was found that meets the guide\n"
line_of (failure.Guide line) = line
line_of (failure.Names line) = line
line_of (failure.Output line) = line
line_of failure.Memory = codes "nighthub_page: memory\n"

abbrev pub status_of : Failure → ℕ
status_of failure.NoSample = 1
status_of (failure.Guide line) = 3
status_of (failure.Names line) = 3
status_of (failure.Output line) = 5
status_of failure.Memory = 6

-- a status: 0, 2 or 5, or that of a failure
abbrev pub IsStatus : ℕ → Type 0
IsStatus n = IsTrue (n == 0 || (n == 1 || (n == 2 || (n == 3 || (n == 5 || n == 6)))))

-- a failure of files to be written: one of them, or out of memory
abbrev pub CantWrite : Failure → Type 0
CantWrite failure.NoSample = ⊥
CantWrite (failure.Guide line) = ⊥
CantWrite (failure.Names line) = ⊥
CantWrite (failure.Output line) = Unit {0}
CantWrite failure.Memory = Unit {0}
