-- Why a file isn't read (own): memory, or the file.
use Rattle.std.specs.Prelude.{◌≡◌, ⊤, ℕ, Bool, false, List, Result}
use Rattle.toml.specs.Data.{Members}
use Rattle.csv.specs.declared.error.ErrorKind.{ErrorKind}
use Rattle.csv.specs.declared.error.ErrorKind.TheVariants as kind
use Rattle.toml_keys.specs.Refusals.{Refusal}
use Rattle.toml_keys.specs.declared.file_fault.FileFault.{FileFault}
use Rattle.toml_keys.specs.declared.file_fault.FileFault.TheVariants as file
use Rattle.night_record.specs.declared.fault.TableFault.{TableFault}
use Rattle.night_record.specs.declared.fault.TableFault.TheVariants as table
use Rattle.night_entries.specs.Again.{IsNoTable}
use Rattle.night_entries.specs.Refused.{IsFileRefused}
use Rattle.night_entries.specs.declared.fault.EntryFault.{EntryFault}
use Rattle.night_entries.specs.declared.fault.EntryFault.TheVariants as fault
use Rattle.night_entries.specs.declared.fault.Paper.{Paper}
use Rattle.night_entries.specs.declared.fault.Paper.TheVariants as paper

-- a setup or a counters file that isn't read
abbrev pub read_fault : Paper → FileFault → EntryFault
read_fault paper file.NoMemory = fault.Memory
read_fault paper file.NotToml = fault.Unreadable paper
read_fault paper (file.Missing key) = fault.Unreadable paper
read_fault paper (file.WrongKind key) = fault.Unreadable paper
read_fault paper (file.Unknown key) = fault.Unreadable paper

-- out of memory, or this file, whose reader refuses its bytes
abbrev pub IsReadFault : {A : Type 0} → (Members → Result A Refusal) → Paper → (bytes : List ℕ) → EntryFault → Type 0
IsReadFault read paper bytes fault.Memory = ⊤
IsReadFault read paper bytes (fault.Unreadable other) = (other ≡ paper) × IsFileRefused read bytes

-- out of memory, or the sums, of which this holds
abbrev pub IsSumFault : Type 0 → EntryFault → Type 0
IsSumFault bad fault.Memory = ⊤
IsSumFault bad (fault.Unreadable other) = (other ≡ paper.Sums) × bad

-- out of memory, or the table, where this isn't so
abbrev pub IsTrackFault : (good : Bool) → EntryFault → Type 0
IsTrackFault good fault.Memory = ⊤
IsTrackFault good (fault.Unreadable other) = (other ≡ paper.Track) × (good ≡ false)

-- out of memory, or the sets that were asked for again, whose table the bytes aren't
abbrev pub IsAgainFault : (bytes : List ℕ) → EntryFault → Type 0
IsAgainFault bytes fault.Memory = ⊤
IsAgainFault bytes (fault.Unreadable other) = (other ≡ paper.Again) × IsNoTable bytes

-- a table of sets that were asked for again
abbrev pub again_fault : TableFault → EntryFault
again_fault table.Memory = fault.Memory
again_fault table.Columns = fault.Unreadable paper.Again
again_fault table.Rows = fault.Unreadable paper.Again
again_fault table.Order = fault.Unreadable paper.Again

-- a table; a reader of bytes that are there fails in no other way
abbrev pub table_fault : ErrorKind → EntryFault
table_fault kind.OutOfMemory = fault.Memory
table_fault (kind.Io error) = fault.Memory
table_fault (kind.Utf8 at error) = fault.Unreadable paper.Track
table_fault (kind.UnequalLengths at expected len) = fault.Unreadable paper.Track
table_fault (kind.Serialize text) = fault.Unreadable paper.Track
table_fault (kind.Deserialize at error) = fault.Unreadable paper.Track
