-- What is printed of a chain that is broken (own): a line for each break.
use Rattle.std.specs.Prelude.{ℕ, ◌+◌, ◌-◌, ◌==◌, List, ◌++◌, codes, decimal, if◌then◌else◌, nat_lt}
use Rattle.std.specs.List.{flat_map}
use Rattle.file_names.specs.Shown.{shown}
use Rattle.record_chain.specs.declared.breaks.ChainBreak.{ChainBreak}
use Rattle.record_chain.specs.declared.breaks.ChainBreak.TheVariants as chain
use Rattle.record_chain.specs.declared.breaks.FileFault.{FileFault}
use Rattle.record_chain.specs.declared.breaks.FileFault.TheVariants as fault
use Rattle.record_chain.specs.declared.breaks.OtherNumber.{OtherNumber}
use Rattle.record_chain.specs.declared.breaks.OtherRecord.{OtherRecord}
use Rattle.record_chain.specs.declared.breaks.WrongFile.{WrongFile}

-- `12 (mon)`
abbrev pub night_words : (number : ℕ) → (name : List ℕ) → List ℕ
night_words number name = decimal number ++ (codes " (" ++ (name ++ codes ")"))

-- nights between two others
abbrev pub missing_words : (first last : ℕ) → List ℕ
missing_words first last =
    if first == last then codes "night " ++ (decimal first ++ codes " is missing")
    else codes "nights " ++ (decimal first ++ (codes " to " ++ (decimal last ++ codes " are missing")))

-- a night whose number is too small
abbrev pub after_words : OtherNumber → List ℕ
after_words b = codes " comes after night " ++ night_words b.before b.before_name

abbrev pub late_words : OtherNumber → List ℕ
late_words b = codes "night " ++ (night_words b.number b.name ++ after_words b)

abbrev pub number_words : OtherNumber → List ℕ
number_words b = if nat_lt b.before b.number then missing_words (b.before + 1) (b.number - 1) else late_words b

abbrev pub record_words : OtherRecord → List ℕ
record_words b =
    if b.before == 0 then codes "night " ++ (decimal b.number ++ codes " names a record before it, and it is the first")
    else codes "night " ++ (decimal b.before ++ (codes "'s record isn't the one that night " ++ (decimal b.number ++ codes " names")))

-- a file that isn't what the record says
abbrev pub fault_words : FileFault → List ℕ
fault_words fault.Gone = codes " is gone"
fault_words fault.Changed = codes " was changed"
fault_words fault.NotListed = codes " isn't listed"

abbrev pub wrong_words : WrongFile → List ℕ
wrong_words b = codes " isn't what its record says: " ++ (b.file ++ fault_words b.fault)

abbrev pub file_words : WrongFile → List ℕ
file_words b = codes "night " ++ (night_words b.number b.name ++ wrong_words b)

abbrev pub break_words : ChainBreak → List ℕ
break_words (chain.Number b) = number_words b
break_words (chain.Record b) = record_words b
break_words (chain.File b) = file_words b

-- names have any bytes, and each line is one line
abbrev pub line_of : (words : List ℕ) → List ℕ
line_of words = shown words ++ codes "\n"

abbrev pub break_lines : List ChainBreak → List ℕ
break_lines found = flat_map (λ b. line_of (break_words b)) found
