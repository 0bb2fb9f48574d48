-- What gathering prints (own): a line for each file, and a total.
use Rattle.std.specs.Prelude.{ℕ, ◌==◌, nat_le, List, ◌++◌, codes, decimal, if◌then◌else◌}
use Rattle.gather_files.specs.declared.cause.Cause.{Cause}
use Rattle.gather_files.specs.declared.cause.Cause.TheVariants as cause
use Rattle.gather_files.specs.declared.cause.ElementLength.{ElementLength}
use Rattle.gather_files.specs.declared.gather.End.{End}
use Rattle.gather_files.specs.declared.gather.End.TheVariants as end
use Rattle.gather_files.specs.declared.gather.Gathered.{Gathered}
use Rattle.gather_files.specs.declared.gather.Gathered.TheVariants as gathered
use Rattle.gather_files.specs.declared.gather.Separators.{Separators}
use Rattle.gather_files.specs.declared.gather.Taken.{Taken}
use Rattle.file_names.specs.Shown.{shown, shown_delimiter}
use Rattle.gather_command.specs.declared.outcome.Outcome.{Outcome}
use Rattle.gather_command.specs.declared.outcome.Outcome.TheVariants as outcome

-- with which separator an IEA is written
abbrev pub written_words : (separator : ℕ) → List ℕ
written_words separator = codes ", its IEA is written with " ++ (shown_delimiter separator ++ codes "\n")

-- and which one its ISA names
abbrev pub separator_words : Separators → List ℕ
separator_words s = codes ", will be refused: its ISA names " ++ (shown_delimiter s.named ++ written_words s.written)

-- how a file ends
abbrev pub end_words : End → List ℕ
end_words end.Whole = codes "\n"
end_words end.Mended = codes ", with the terminator that its end lacked\n"
end_words end.CutOff = codes ", truncated: its last interchange has no IEA, and will be refused\n"
end_words (end.OtherSeparator separators) = separator_words separators
end_words end.CutInHeader = codes ", truncated: its last bytes may begin a header\n"

-- this many bytes, and how many it has to have
abbrev pub length_words : ElementLength → List ℕ
length_words e =
    codes " has "
    ++ (decimal e.len ++ ((if e.len == 1 then codes " byte, not " else codes " bytes, not ") ++ (decimal e.width ++ codes "\n")))

-- which element of what should be a header isn't as long as it must be
abbrev pub element_words : ElementLength → List ℕ
element_words e =
    (if nat_le e.element 9 then codes "its ISA0" else codes "its ISA") ++ (decimal e.element ++ length_words e)

-- why a file isn't taken
abbrev pub cause_words : Cause → List ℕ
cause_words cause.Empty = codes "it is empty\n"
cause_words cause.NoHeader = codes "it doesn't begin with ISA\n"
cause_words cause.Compressed = codes "it is compressed\n"
cause_words cause.Utf16 = codes "it is UTF-16\n"
cause_words cause.HeaderLength = codes "its ISA isn't a header of 106 bytes\n"
cause_words (cause.ElementLength e) = element_words e

-- this many interchanges
abbrev pub interchange_words : ℕ → List ℕ
interchange_words n = decimal n ++ (if n == 1 then codes " interchange, " else codes " interchanges, ")

-- of this many bytes, after this many others
abbrev pub byte_words : (len before : ℕ) → End → List ℕ
byte_words len before end = decimal len ++ (codes " bytes at " ++ (decimal before ++ end_words end))

abbrev pub taken_words : Taken → (before : ℕ) → List ℕ
taken_words taken before = codes ": " ++ (interchange_words taken.interchanges ++ byte_words taken.len before taken.end)

abbrev pub aside_words : Cause → List ℕ
aside_words cause = codes ": set aside: " ++ cause_words cause

abbrev pub gathered_words : Gathered → (before : ℕ) → List ℕ
gathered_words (gathered.Taken taken) before = taken_words taken before
gathered_words (gathered.SetAside cause) before = aside_words cause

abbrev pub outcome_words : Outcome → (before : ℕ) → List ℕ
outcome_words (outcome.Read g) before = gathered_words g before
outcome_words outcome.Changed before = codes ": set aside: it changed while it was read\n"
outcome_words outcome.NameNotUtf8 before = codes ": set aside: its name isn't UTF-8\n"

-- the line on a file
abbrev pub line_of_file : (path : List ℕ) → Outcome → (before : ℕ) → List ℕ
line_of_file path o before = shown path ++ outcome_words o before
