-- What was read of nights that are archived as one (own): what is kept of them, or the first file that isn't what it must be.
use Rattle.std.specs.Prelude.{◌≡◌, ⊤, ℕ, List, Option, None, Some, codes}
use Rattle.archived_nights.specs.Files as archive
use Rattle.archived_nights.specs.declared.fault.ArchiveFile.{ArchiveFile}
use Rattle.archived_nights.specs.declared.fault.ArchiveFile.TheVariants as paper
use Rattle.archived_nights.specs.declared.read.ArchivePapers.{ArchivePapers}
use Rattle.hub_ledger.specs.declared.entry.NightEntry.{NightEntry}
use Rattle.system_io.specs.Outbox.{path_in}
use Rattle.night_marks.specs.declared.bad.FileState.{FileState}
use Rattle.night_marks.specs.declared.bad.FileState.TheVariants as state
use Rattle.night_marks.specs.declared.bad.NightFile.{NightFile}
use Rattle.night_marks.specs.declared.bad.NightFile.TheVariants as file
use Rattle.night_marks.specs.declared.mark.NightMark.{NightMark}
use Rattle.std.specs.Option.{option_or}
use Rattle.night_folder.specs.Files.{bytes_or_none, unread}
use Rattle.night_folder.specs.Home.{archive_of}
use Rattle.night_folder.specs.declared.archived.ArchiveFiles.{ArchiveFiles}
use Rattle.night_folder.specs.declared.night.NightFault.{NightFault}
use Rattle.night_folder.specs.declared.night.NightFault.TheVariants as fault
use Rattle.night_folder.specs.declared.night.NightRead.{NightRead}
use Rattle.night_folder.specs.declared.night.NightRead.TheVariants as read

-- the tables and their sums, by their paths
pub record AreArchiveFilesAt (folder : List ℕ) (files : ArchiveFiles) : Type 0 where
  pub sums : files.sums.path ≡ path_in folder (codes "sums")
  pub delivered : files.delivered.path ≡ path_in folder (codes "delivered.csv")
  pub addresses : files.addresses.path ≡ path_in folder (codes "addresses.csv")

-- the first of them that can't be read
abbrev pub unread_archive : ArchiveFiles → Option NightFile
unread_archive files =
    option_or (unread file.Sums files.sums.bytes)
    (option_or (unread file.Delivered files.delivered.bytes) (unread file.Addresses files.addresses.bytes))

-- their bytes
pub record AreArchivePapers (mark : NightMark) (files : ArchiveFiles) (papers : ArchivePapers) : Type 0 where
  pub name : papers.name.now ≡ mark.name
  pub moment : papers.moment.now ≡ mark.moment
  pub delivered : papers.delivered.now ≡ bytes_or_none files.delivered.bytes
  pub addresses : papers.addresses.now ≡ bytes_or_none files.addresses.bytes
  pub sums : papers.sums.now ≡ bytes_or_none files.sums.bytes

-- each of them can be read, and what is kept is the entry of their bytes
pub record IsArchiveEntry (mark : NightMark) (files : ArchiveFiles) (entry : NightEntry) : Type 0 where
  pub each_read : unread_archive files ≡ None
  pub papers : ArchivePapers
  pub papers_are : AreArchivePapers mark files papers
  pub entry_is : archive.IsEntry papers entry

-- a file of the archive
abbrev pub file_of : ArchiveFile → NightFile
file_of paper.Moment = file.Moment
file_of paper.Sums = file.Sums
file_of paper.Delivered = file.Delivered
file_of paper.Addresses = file.Addresses

-- a file isn't what it must be
pub record IsArchiveWrong (mark : NightMark) (files : ArchiveFiles) (file : NightFile) : Type 0 where
  pub papers : ArchivePapers
  pub papers_are : AreArchivePapers mark files papers
  pub of : ArchiveFile
  pub file_is : file ≡ file_of of
  pub wrong : archive.IsWrong papers of

abbrev pub IsArchiveBad : NightMark → ArchiveFiles → NightFile → FileState → Type 0
IsArchiveBad mark files file state.Unread = unread_archive files ≡ Some file
IsArchiveBad mark files file state.Wrong = IsArchiveWrong mark files file

-- why there isn't an entry: a file, or memory, which says nothing of the files
abbrev pub IsArchiveFault : NightMark → ArchiveFiles → NightFault → Type 0
IsArchiveFault mark files (fault.File file state) = IsArchiveBad mark files file state
IsArchiveFault mark files fault.Memory = ⊤

abbrev pub IsArchiveReadOf : NightMark → ArchiveFiles → NightRead → Type 0
IsArchiveReadOf mark files (read.Entry entry) = IsArchiveEntry mark files entry
IsArchiveReadOf mark files (read.Bad bad) = (bad.night ≡ mark.name) × IsArchiveBad mark files bad.file bad.state

-- nights of the folder `nights` that are archived as one, as they were read
pub record IsArchiveRead (nights : List ℕ) (mark : NightMark) (read : NightRead) : Type 0 where
  pub files : ArchiveFiles
  pub at : AreArchiveFilesAt (path_in (archive_of nights) mark.name) files
  pub read_is : IsArchiveReadOf mark files read
