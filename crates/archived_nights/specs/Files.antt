-- The files of nights that are archived as one (RFC 4180; FIPS 180-4; own): how they are written, and what is read of them.
use Rattle.std.specs.Prelude.{◌≡◌, ◌≢◌, ⊤, ℕ, true, false, List, [], ◌∷◌, ◌++◌, codes}
use Rattle.hub_ledger.specs.declared.entry.AddressNumbers.{AddressNumbers}
use Rattle.hub_ledger.specs.declared.entry.NightEntry.{NightEntry}
use Rattle.kept_files.specs.Files.{file}
use Rattle.kept_files.specs.Sums.{line_of, sum_text}
use Rattle.night_entries.specs.Good.{is_moment}
use Rattle.night_record.specs.Again.{IsAgainFault, again_text}
use Rattle.night_record.specs.Tables.{addresses_text, are_addresses}
use Rattle.night_record.specs.Tables as tables
use Rattle.night_record.specs.declared.addresses.AddressNext.{AddressNext}
use Rattle.night_record.specs.declared.fault.TableFault.{TableFault}
use Rattle.night_record.specs.declared.fault.TableFault.TheVariants as table
use Rattle.night_shelf.specs.declared.night.NightFile.{NightFile}
use Rattle.archived_nights.specs.Archive.{entry_of, row_of as row_by}
use Rattle.archived_nights.specs.declared.archive.Archive.{Archive}
use Rattle.archived_nights.specs.declared.fault.ArchiveFault.{ArchiveFault}
use Rattle.archived_nights.specs.declared.fault.ArchiveFault.TheVariants as fault
use Rattle.archived_nights.specs.declared.fault.ArchiveFile.{ArchiveFile}
use Rattle.archived_nights.specs.declared.fault.ArchiveFile.TheVariants as paper
use Rattle.archived_nights.specs.declared.read.ArchivePapers.{ArchivePapers}

abbrev pub row_of : AddressNext → AddressNumbers
row_of next = row_by next

-- the line that sha256sum prints of a file
abbrev pub summed_line : (name bytes : List ℕ) → List ℕ
summed_line name bytes = line_of name (sum_text bytes)

-- the sums of the two tables
abbrev pub sums_text : (delivered addresses : List ℕ) → List ℕ
sums_text delivered addresses = summed_line (codes "delivered.csv") delivered ++ summed_line (codes "addresses.csv") addresses

-- the files of an archive, by the bytes of its tables
abbrev pub files_by : (moment of_last delivered addresses : List ℕ) → List NightFile
files_by moment of_last delivered addresses =
    file (codes "from/at") moment ∷ file (codes "delivered.csv") delivered ∷ file (codes "addresses.csv") addresses
    ∷ file (codes "sums") (sums_text delivered addresses) ∷ file (codes "night.toml") of_last ∷ file (codes "done") (codes "0\n") ∷ []

-- the files of an archive, whose last night has a record of these bytes
abbrev pub archive_files : Archive → (of_last : List ℕ) → List NightFile
archive_files archive of_last = files_by archive.moment of_last (again_text archive.sets) (addresses_text archive.next)

-- the entry of an archive by the bytes of its files, whose sums are those that are listed
pub record IsEntry (papers : ArchivePapers) (entry : NightEntry) : Type 0 where
  pub archive : Archive
  pub name_is : archive.name ≡ papers.name.now
  pub moment_is : archive.moment ≡ papers.moment.now
  pub moment : is_moment papers.moment.now ≡ true
  pub sums_are : papers.sums.now ≡ sums_text papers.delivered.now papers.addresses.now
  pub delivered_are : papers.delivered.now ≡ again_text archive.sets
  pub addresses_are : papers.addresses.now ≡ addresses_text archive.next
  pub can_be : are_addresses archive.next ≡ true
  pub entry_is : entry ≡ entry_of archive

-- bytes that are no table of sets, for a cause that is in them
abbrev pub IsNoDelivered : (bytes : List ℕ) → Type 0
IsNoDelivered bytes = (cause : TableFault) × (cause ≢ table.Memory) × IsAgainFault bytes cause

-- bytes that are no table of addresses, for a cause that is in them
abbrev pub IsNoAddresses : (bytes : List ℕ) → Type 0
IsNoAddresses bytes = (cause : TableFault) × (cause ≢ table.Memory) × tables.IsAddressesFault bytes cause

-- a file isn't what it must be
abbrev pub IsWrong : ArchivePapers → ArchiveFile → Type 0
IsWrong papers paper.Moment = is_moment papers.moment.now ≡ false
IsWrong papers paper.Sums = papers.sums.now ≢ sums_text papers.delivered.now papers.addresses.now
IsWrong papers paper.Delivered = IsNoDelivered papers.delivered.now
IsWrong papers paper.Addresses = IsNoAddresses papers.addresses.now

abbrev pub IsFaultOf : ArchivePapers → ArchiveFault → Type 0
IsFaultOf papers (fault.Wrong file) = IsWrong papers file
IsFaultOf papers fault.Memory = ⊤

-- private: the same of one table
abbrev pub IsDeliveredFault : (bytes : List ℕ) → ArchiveFault → Type 0
IsDeliveredFault bytes (fault.Wrong file) = (file ≡ paper.Delivered) × IsNoDelivered bytes
IsDeliveredFault bytes fault.Memory = ⊤

abbrev pub IsAddressesFault : (bytes : List ℕ) → ArchiveFault → Type 0
IsAddressesFault bytes (fault.Wrong file) = (file ≡ paper.Addresses) × IsNoAddresses bytes
IsAddressesFault bytes fault.Memory = ⊤

-- the bytes of an archive's files, under its name
pub record ArePapersOf (archive : Archive) (papers : ArchivePapers) : Type 0 where
  pub name_is : papers.name.now ≡ archive.name
  pub moment_is : papers.moment.now ≡ archive.moment
  pub delivered_are : papers.delivered.now ≡ again_text archive.sets
  pub addresses_are : papers.addresses.now ≡ addresses_text archive.next

-- what is read of the files of an archive is its entry
abbrev pub ArchiveReadsBack : Type 0
ArchiveReadsBack = (archive : Archive) (papers : ArchivePapers) (entry : NightEntry) → are_addresses archive.next ≡ true
    → ArePapersOf archive papers → IsEntry papers entry → entry ≡ entry_of archive
