-- What breaks the chain of records (own), night by night: each night after the one before it, and each file by its night's record.
use Rattle.std.specs.Prelude.{ℕ, ◌+◌, ◌==◌, Bool, true, false, List, [], ◌∷◌, ◌++◌, Option, Some, None, codes, option_map}
use Rattle.std.specs.Prelude.{if◌then◌else◌}
use Rattle.std.specs.List.{flat_map}
use Rattle.std.specs.Str.{bytes_eq}
use Rattle.hub_kinds.specs.Words.{contains_text}
use Rattle.night_entries.specs.Named.{named}
use Rattle.night_record.specs.declared.record.NightRecord.{NightRecord}
use Rattle.night_record.specs.declared.record.SummedFile.{SummedFile}
use Rattle.record_chain.specs.declared.breaks.ChainBreak.{ChainBreak}
use Rattle.record_chain.specs.declared.breaks.ChainBreak.TheVariants as chain
use Rattle.record_chain.specs.declared.breaks.FileFault.{FileFault}
use Rattle.record_chain.specs.declared.breaks.FileFault.TheVariants as fault
use Rattle.record_chain.specs.declared.night.ReadNight.{ReadNight}

-- the number and the name of the night before; the first night has none
abbrev pub number_of : Option ReadNight → ℕ
number_of None = 0
number_of (Some night) = night.record.number

abbrev pub name_of : Option ReadNight → List ℕ
name_of None = []
name_of (Some night) = night.record.name

-- the sum of its record
abbrev pub sum_of : Option ReadNight → Option (List ℕ)
sum_of before = option_map (λ (night : ReadNight). night.sum) before

abbrev pub is_sum : (named is : Option (List ℕ)) → Bool
is_sum None None = true
is_sum None (Some sum) = false
is_sum (Some named) None = false
is_sum (Some named) (Some sum) = bytes_eq named sum

-- a number that isn't the next one: a night is missing, or comes too late; otherwise a record that isn't the one which is named
abbrev pub other_record : (before : Option ReadNight) → ReadNight → List ChainBreak
other_record before night =
    if is_sum night.record.before (sum_of before) then []
    else chain.Record (record { number = night.record.number; before = number_of before }) ∷ []

abbrev pub link_breaks : (before : Option ReadNight) → ReadNight → List ChainBreak
link_breaks before night =
    if night.record.number == number_of before + 1 then other_record before night
    else chain.Number (record {
      number = night.record.number;
      name = night.record.name;
      before = number_of before;
      before_name = name_of before;
    }) ∷ []

-- a file by its name; the last one counts
abbrev pub file_named : List SummedFile → (name : List ℕ) → Option SummedFile
file_named files name = named (λ (file : SummedFile). file.name) name files

-- the files that a record lists
abbrev pub listed : NightRecord → List SummedFile
listed night = night.made_of ++ night.gave

-- the record, and the files that say again what it says: those that mark the night, its status and its sums
abbrev pub marks : List (List ℕ)
marks = codes "from/at" ∷ codes "from/before" ∷ codes "from/in.sum" ∷ []

abbrev pub beside : List (List ℕ)
beside = codes "night.toml" ∷ codes "done" ∷ codes "sums" ∷ marks

-- why a file that is listed isn't as it is listed
abbrev pub listed_fault : (file : SummedFile) → (found : Option SummedFile) → Option FileFault
listed_fault file None = Some fault.Gone
listed_fault file (Some found) = if bytes_eq file.sum found.sum then None else Some fault.Changed

-- why a file that was found isn't listed
abbrev pub found_fault : (name : List ℕ) → (listed : Option SummedFile) → Option FileFault
found_fault name None = if contains_text beside name then None else Some fault.NotListed
found_fault name (Some file) = None

abbrev pub wrong_file : ReadNight → (file : List ℕ) → Option FileFault → List ChainBreak
wrong_file night file None = []
wrong_file night file (Some fault) =
    chain.File (record { number = night.record.number; name = night.record.name; file = file; fault = fault }) ∷ []

-- the files of a night that are gone, changed or not listed
abbrev pub listed_breaks : (found : List ℕ → Option SummedFile) → ReadNight → List SummedFile → List ChainBreak
listed_breaks found night files =
    flat_map (λ (file : SummedFile). wrong_file night file.name (listed_fault file (found file.name))) files

abbrev pub found_breaks : (of : List ℕ → Option SummedFile) → ReadNight → List SummedFile → List ChainBreak
found_breaks of night files =
    flat_map (λ (file : SummedFile). wrong_file night file.name (found_fault file.name (of file.name))) files

abbrev pub file_breaks : ReadNight → List ChainBreak
file_breaks night =
    listed_breaks (file_named night.found) night (listed night.record)
    ++ found_breaks (file_named (listed night.record)) night night.found

-- what a night breaks after the one before it
abbrev pub breaks_on : (before : Option ReadNight) → ReadNight → List ChainBreak
breaks_on before night = link_breaks before night ++ file_breaks night

-- what nights break, one after another
abbrev pub breaks_after : (before : Option ReadNight) → List ReadNight → List ChainBreak
breaks_after before [] = []
breaks_after before (night ∷ nights) = breaks_on before night ++ breaks_after (Some night) nights
