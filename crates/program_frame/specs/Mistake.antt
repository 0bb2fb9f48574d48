-- A mistake in a program's arguments (own): its line, after the name of the program, and the status that the program ends with.
use Rattle.std.specs.Prelude.{ℕ, List, ◌++◌, codes}
use Rattle.program_frame.specs.declared.mistake.Mistake.{Mistake}
use Rattle.program_frame.specs.declared.mistake.Mistake.TheVariants as mistake

-- the line of a program to which memory is refused
abbrev pub memory_line : (program : List ℕ) → List ℕ
memory_line program = program ++ codes ": memory\n"

-- the text of a mistake, and where help is
abbrev pub usage_rest : (text : List ℕ) → List ℕ
usage_rest text = text ++ codes "; see --help\n"

abbrev pub mistake_line : (program : List ℕ) → Mistake → List ℕ
mistake_line program (mistake.Usage text) = program ++ (codes ": usage: " ++ usage_rest text)
mistake_line program mistake.Memory = memory_line program

abbrev pub mistake_status : Mistake → ℕ
mistake_status (mistake.Usage text) = 2
mistake_status mistake.Memory = 6

-- the arguments are wrong
abbrev pub IsUsage : Mistake → Type 0
IsUsage (mistake.Usage text) = Unit {0}
IsUsage mistake.Memory = ⊥
