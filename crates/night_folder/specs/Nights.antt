-- What was read of each night (own): what is kept of it, or the first file that isn't what a night leaves.
use Rattle.std.specs.Prelude.{◌≡◌, ⊤, ℕ, Bool, true, false, eqb, List, [], ◌∷◌, ◌++◌, Option, Some, None, IfSome, MatchBool, codes, map}
use Rattle.std.specs.List.{AllZip, starts_with}
use Rattle.hex.specs.Hex.{encode_lower}
use Rattle.sha2.specs.Sha256.{sha256}
use Rattle.hub_ledger.specs.declared.entry.NightEntry.{NightEntry}
use Rattle.system_io.specs.Outbox.{path_in}
use Rattle.night_entries.specs.Entry.{IsEntry}
use Rattle.night_entries.specs.Refused.{IsRefused}
use Rattle.night_entries.specs.declared.entry.Papers.{Papers}
use Rattle.night_entries.specs.declared.fault.Paper.{Paper}
use Rattle.night_entries.specs.declared.fault.Paper.TheVariants as paper
use Rattle.night_entries.specs.declared.files.NamedSum.{NamedSum}
use Rattle.std.specs.Option.{option_or}
use Rattle.night_folder.specs.Archived.{IsArchiveRead}
use Rattle.night_folder.specs.Files.{FileValue, FolderValue, bytes_or_none, unread}
use Rattle.night_marks.specs.declared.bad.BadFile.{BadFile}
use Rattle.night_marks.specs.declared.bad.FileState.{FileState}
use Rattle.night_marks.specs.declared.bad.FileState.TheVariants as state
use Rattle.night_marks.specs.declared.bad.NightFile.{NightFile}
use Rattle.night_marks.specs.declared.bad.NightFile.TheVariants as file
use Rattle.night_folder.specs.declared.files.Left.{Left}
use Rattle.night_folder.specs.declared.files.MadeOf.{MadeOf}
use Rattle.night_folder.specs.declared.files.NightFiles.{NightFiles}
use Rattle.night_marks.specs.declared.mark.NightMark.{NightMark}
use Rattle.night_folder.specs.declared.night.NightFault.{NightFault}
use Rattle.night_folder.specs.declared.night.NightFault.TheVariants as fault
use Rattle.night_folder.specs.declared.night.NightRead.{NightRead}
use Rattle.night_folder.specs.declared.night.NightRead.TheVariants as read

-- the SHA-256 of a file's bytes in hexadecimal digits; of a file that can't be read none
abbrev pub sum_or_none : Option (List ℕ) → List ℕ
sum_or_none None = []
sum_or_none (Some bytes) = encode_lower (sha256 bytes)

-- the sum of the file of this name in a night's folder
pub record IsSumOf (folder name : List ℕ) (sum : NamedSum) : Type 0 where
  pub file : FileValue
  pub path_is : file.path ≡ path_in folder name
  pub name_is : sum.name ≡ name
  pub sum_is : sum.sum ≡ sum_or_none file.bytes

-- the files of which a night has sums: all of out/, and the total
abbrev pub summed_names : (out : List (List ℕ)) → List (List ℕ)
summed_names out = map (λ name. codes "out/" ++ name) out ++ codes "total" ∷ []

-- the folder out/ was listed, and these are the sums of its files and of the total
pub record AreSums (folder : List ℕ) (found : List NamedSum) : Type 0 where
  pub out : FolderValue
  pub path_is : out.path ≡ path_in folder (codes "out")
  pub names : List (List ℕ)
  pub listed : out.names ≡ Some names
  pub sums : AllZip (IsSumOf folder) (summed_names names) found

-- the files of which a night was made, by their paths
pub record AreMadeOfAt (folder : List ℕ) (made : MadeOf) : Type 0 where
  pub setup : made.setup.path ≡ path_in folder (codes "from/setup.toml")
  pub counters : made.counters.path ≡ path_in folder (codes "from/counters.toml")
  pub input : made.input.path ≡ path_in folder (codes "from/in.x12")
  pub input_sum : made.input_sum.path ≡ path_in folder (codes "from/in.sum")
  pub again : made.again.path ≡ path_in folder (codes "from/again.csv")

-- the files that a night left, and the sums of what it gave
pub record AreLeftAt (folder : List ℕ) (left : Left) : Type 0 where
  pub next_counters : left.next_counters.path ≡ path_in folder (codes "out/counters.toml")
  pub sums : left.sums.path ≡ path_in folder (codes "sums")
  pub track : left.track.path ≡ path_in folder (codes "track.csv")
  pub found : IfSome left.found (AreSums folder)

pub record AreFilesAt (folder : List ℕ) (files : NightFiles) : Type 0 where
  pub made : AreMadeOfAt folder files.made
  pub left : AreLeftAt folder files.left

-- the input is the one whose sum was written down
abbrev pub is_summed : (input written : List ℕ) → Bool
is_summed input written = starts_with eqb written (encode_lower (sha256 input))

-- the first one that can't be read, of those of which a night was made, and of those that it left
abbrev pub unread_of : MadeOf → Option NightFile
unread_of made =
    option_or (unread file.Setup made.setup.bytes) (option_or (unread file.Counters made.counters.bytes)
    (option_or (unread file.Input made.input.bytes) (unread file.InputSum made.input_sum.bytes)))

abbrev pub unread_left : Left → Option NightFile
unread_left left =
    option_or (unread file.NextCounters left.next_counters.bytes) (option_or (unread file.Sums left.sums.bytes)
    (option_or (unread file.Track left.track.bytes) (unread file.Out left.found)))

-- the first file that can't be read
abbrev pub first_unread : NightFiles → Option NightFile
first_unread files = option_or (unread_of files.made) (unread_left files.left)

abbrev pub sums_or_none : Option (List NamedSum) → List NamedSum
sums_or_none None = []
sums_or_none (Some sums) = sums

-- the bytes of a night's files
pub record ArePapersOf (mark : NightMark) (files : NightFiles) (papers : Papers) : Type 0 where
  pub name : papers.name.now ≡ mark.name
  pub moment : papers.moment.now ≡ mark.moment
  pub setup : papers.setup.now ≡ bytes_or_none files.made.setup.bytes
  pub counters : papers.counters.now ≡ bytes_or_none files.made.counters.bytes
  pub next_counters : papers.next_counters.now ≡ bytes_or_none files.left.next_counters.bytes
  pub sums : papers.sums.now ≡ bytes_or_none files.left.sums.bytes
  pub input : papers.input.now ≡ bytes_or_none files.made.input.bytes
  pub track : papers.track.now ≡ bytes_or_none files.left.track.bytes
  pub again : papers.again.now ≡ bytes_or_none files.made.again.bytes
  pub found : papers.found.now ≡ sums_or_none files.left.found

abbrev pub is_as_summed : MadeOf → Bool
is_as_summed made = is_summed (bytes_or_none made.input.bytes) (bytes_or_none made.input_sum.bytes)

-- each file can be read, and the input is the one whose sum was written down
pub record IsEntryOf (mark : NightMark) (files : NightFiles) (entry : NightEntry) : Type 0 where
  pub each_read : first_unread files ≡ None
  pub summed : is_as_summed files.made ≡ true
  pub papers : Papers
  pub papers_are : ArePapersOf mark files papers
  pub entry_is : IsEntry papers entry

-- a file whose bytes aren't what a night leaves
pub record IsRefusedIn (mark : NightMark) (files : NightFiles) (paper : Paper) : Type 0 where
  pub papers : Papers
  pub papers_are : ArePapersOf mark files papers
  pub refused : IsRefused papers paper

-- such a file, or an input with another sum than the one that was written down
abbrev pub IsWrong : NightMark → NightFiles → NightFile → Type 0
IsWrong mark files file.Moment = IsRefusedIn mark files paper.Moment
IsWrong mark files file.Setup = IsRefusedIn mark files paper.Setup
IsWrong mark files file.Counters = IsRefusedIn mark files paper.Counters
IsWrong mark files file.Input = is_as_summed files.made ≡ false
IsWrong mark files file.InputSum = ⊥
IsWrong mark files file.Again = IsRefusedIn mark files paper.Again
IsWrong mark files file.NextCounters = IsRefusedIn mark files paper.NextCounters
IsWrong mark files file.Sums = IsRefusedIn mark files paper.Sums
IsWrong mark files file.Track = IsRefusedIn mark files paper.Track
IsWrong mark files file.Out = ⊥
IsWrong mark files file.Delivered = ⊥
IsWrong mark files file.Addresses = ⊥

abbrev pub IsBad : NightMark → NightFiles → NightFile → FileState → Type 0
IsBad mark files file state.Unread = first_unread files ≡ Some file
IsBad mark files file state.Wrong = IsWrong mark files file

-- why there isn't an entry: a file, or memory, which says nothing of the files
abbrev pub IsFaultOf : NightMark → NightFiles → NightFault → Type 0
IsFaultOf mark files (fault.File file state) = IsBad mark files file state
IsFaultOf mark files fault.Memory = ⊤

-- what was read of a night: its entry, or its first file that isn't what it must be
abbrev pub IsReadOf : NightMark → NightFiles → NightRead → Type 0
IsReadOf mark files (read.Entry entry) = IsEntryOf mark files entry
IsReadOf mark files (read.Bad bad) = (bad.night ≡ mark.name) × IsBad mark files bad.file bad.state

-- a night of the folder `nights` that isn't archived, as it was read
pub record IsNightRead (nights : List ℕ) (mark : NightMark) (read : NightRead) : Type 0 where
  pub files : NightFiles
  pub at : AreFilesAt (path_in nights mark.name) files
  pub read_is : IsReadOf mark files read

-- a night of the folder `nights`, as it was read; one that stands for archived nights has other files
abbrev pub IsRead : (nights : List ℕ) → NightMark → NightRead → Type 0
IsRead nights mark read = MatchBool mark.is_archived (IsArchiveRead nights mark read) (IsNightRead nights mark read)

-- the nights of which an entry is kept, and the files of the others
abbrev pub entry_in : NightRead → Option NightEntry
entry_in (read.Entry entry) = Some entry
entry_in (read.Bad bad) = None

abbrev pub bad_in : NightRead → Option BadFile
bad_in (read.Entry entry) = None
bad_in (read.Bad bad) = Some bad
