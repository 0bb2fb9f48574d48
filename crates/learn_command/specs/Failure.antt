-- The program's failures (own): the line that each prints, and the status that it ends with.
use Rattle.std.specs.Prelude.{ℕ, ◌==◌, ◌||◌, IsTrue, List, codes}
use Rattle.learn_command.specs.declared.failure.Failure.{Failure}
use Rattle.learn_command.specs.declared.failure.Failure.TheVariants as failure

-- what is printed on standard error
abbrev pub line_of : Failure → List ℕ
line_of (failure.NoGuide line) = line
line_of (failure.Known line) = line
line_of (failure.Sample line) = line
line_of failure.Memory = codes "nighthub_learn: memory\n"

abbrev pub status_of : Failure → ℕ
status_of (failure.NoGuide line) = 1
status_of (failure.Known line) = 3
status_of (failure.Sample line) = 4
status_of failure.Memory = 6

-- a status: 0, 2 or 5, or that of a failure
abbrev pub IsStatus : ℕ → Type 0
IsStatus n = IsTrue (n == 0 || (n == 1 || (n == 2 || (n == 3 || (n == 4 || (n == 5 || n == 6))))))
