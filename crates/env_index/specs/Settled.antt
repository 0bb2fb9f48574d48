-- X12.5, interchange: the index of a text once senders and first uses of numbers are known, by which each interchange has its fault (own).
use Rattle.std.specs.Prelude.{List, [], ◌∷◌, Option}
use Rattle.hub_kinds.specs.declared.interchange.InterchangeFault.{InterchangeFault}
use Rattle.env_index.specs.Index.{IndexEntry, IndexValue}

-- the same interchange, and this fault
abbrev pub with_fault : IndexEntry → Option InterchangeFault → IndexEntry
with_fault entry fault = record { interchange = entry.interchange; fault = fault }

-- each interchange with the fault that is given for it
abbrev pub with_faults : List IndexEntry → List (Option InterchangeFault) → List IndexEntry
with_faults [] faults = []
with_faults (entry ∷ entries) [] = entry ∷ entries
with_faults (entry ∷ entries) (fault ∷ faults) = with_fault entry fault ∷ with_faults entries faults

-- the same text, and the same count outside
abbrev pub settled : IndexValue → List (Option InterchangeFault) → IndexValue
settled index faults = record { text = index.text; entries = with_faults index.entries faults; outside = index.outside }
