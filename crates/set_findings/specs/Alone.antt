-- X12.5, interchange: the index of a text once it is settled with the faults 1 to 8, before first uses of numbers are known (own).
use Rattle.std.specs.Prelude.{◌≡◌, Bool, List, Option}
use Rattle.std.specs.List.{AllZip}
use Rattle.hub_kinds.specs.declared.interchange.InterchangeFault.{InterchangeFault}
use Rattle.env_index.specs.Words.{IndexEntry, IndexValue, settled, with_faults}
use Rattle.partner_setup.specs.Setup.{SetupValue}
use Rattle.set_answers.specs.Settled.{fault_alone, fault_if_earlier}
pub use Rattle.set_answers.specs.Settled.{faults_alone}

abbrev pub entries_alone : SetupValue → List IndexEntry → List IndexEntry
entries_alone setup es = with_faults es (faults_alone setup es)

abbrev pub index_alone : SetupValue → IndexValue → IndexValue
index_alone setup index = settled index (faults_alone setup index.entries)

-- the least of the faults 1 to 9, whichever numbers were used before: where it has none of 1 to 8 an interchange has none or 9
abbrev pub IsSettledBy : SetupValue → IndexEntry → Option InterchangeFault → Type 0
IsSettledBy setup e fault = (earlier : Bool) × (fault ≡ fault_if_earlier (fault_alone setup e) earlier)

abbrev pub AreSettledBy : SetupValue → List IndexEntry → List (Option InterchangeFault) → Type 0
AreSettledBy setup es faults = AllZip (IsSettledBy setup) es faults
