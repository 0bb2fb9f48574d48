-- What is said of the files of a day (own): a line for each.
use Rattle.std.specs.Prelude.{ℕ, ◌+◌, List, [], ◌∷◌, ◌++◌, Option, Some, None, codes, decimal, length}
use Rattle.breach_lines.specs.Lines.{delivery_words}
use Rattle.file_names.specs.Shown.{shown}
use Rattle.gather_command.specs.Lines.{outcome_words}
use Rattle.gather_command.specs.declared.outcome.Outcome.{Outcome}
use Rattle.day_files.specs.Members.{part_of}
use Rattle.day_files.specs.declared.member.Member.{Member}
use Rattle.day_files.specs.declared.member.OldSet.{OldSet}

-- why a file is set aside
abbrev pub aside_words : (cause : List ℕ) → List ℕ
aside_words cause = codes ": set aside: " ++ (shown cause ++ codes "\n")

-- which set of a file was delivered, to whom, and in which night
abbrev pub old_words : OldSet → List ℕ
old_words old = aside_words (delivery_words old.key old.night)

-- what became of a file: of one with an old set, which; of the others what gathering says
abbrev pub fate_by : Option OldSet → Outcome → (before : ℕ) → List ℕ
fate_by None o before = outcome_words o before
fate_by (Some old) o before = old_words old

abbrev pub fate_words : Member → (before : ℕ) → List ℕ
fate_words m before = fate_by m.old m.outcome before

-- a file that is asked for again says so
abbrev pub again_words : Option (List (List ℕ)) → List ℕ
again_words None = []
again_words (Some keys) = codes " (again)"

-- the line on a file, which is the one of this number
abbrev pub line_of : (number : ℕ) → Member → (before : ℕ) → List ℕ
line_of number m before = codes "file " ++ (decimal number ++ (codes " " ++ (shown m.path ++ (again_words m.again ++ fate_words m before))))

-- the lines from this number on, after this many bytes
abbrev pub lines_of : (number before : ℕ) → List Member → List ℕ
lines_of number before [] = []
lines_of number before (m ∷ ms) = line_of number m before ++ lines_of (number + 1) (before + length (part_of m)) ms
