-- A night of a hub (own): what it is made of, and that all nights with it continue.
use Rattle.std.specs.Prelude.{◌≡◌, ℕ, ◌+◌, Bool, false, List, [], ◌∷◌, ◌++◌, codes, if◌then◌else◌, option_map, reverse}
use Rattle.hub_ledger.specs.declared.entry.NightEntry.{NightEntry}
use Rattle.night_folder.specs.Files.{bytes_or_none}
use Rattle.night_marks.specs.Count.{night_count}
use Rattle.night_marks.specs.declared.mark.NightMark.{NightMark}
use Rattle.night_record.specs.Tables.{addresses_text, taken_text}
use Rattle.night_record.specs.declared.addresses.AddressNext.{AddressNext}
use Rattle.night_shelf.specs.declared.night.NightFile.{NightFile}
use Rattle.kept_files.specs.Addresses.{IsNextOf}
use Rattle.kept_files.specs.Files.{AreKeptFiles, file}
use Rattle.kept_files.specs.Taken.{taken_of}
use Rattle.kept_files.specs.declared.heading.Heading.{Heading}
use Rattle.hub_tonight.specs.Tonight.{IsTonight}
use Rattle.hub_tonight.specs.declared.call.HubFiles.{HubFiles}
use Rattle.hub_tonight.specs.declared.night.Tonight.{Tonight}
use Rattle.night_review.specs.GoingOn.{GoOn}
use Rattle.hub_night.specs.Made.{IsEntryIn, came_files, given_files, made_files, table_files}
use Rattle.hub_folder.specs.Names.{folder_after}
use Rattle.hub_folder.specs.Older.{map_now}
use Rattle.hub_folder.specs.declared.chain.Chain.{Chain}
use Rattle.hub_night.specs.declared.day.Day.{Day}
use Rattle.hub_night.specs.declared.entry.NightBytes.{NightBytes}
use Rattle.hub_night.specs.declared.night.Draft.{Draft}
use Rattle.hub_night.specs.declared.night.Laid.{Laid}
use Rattle.hub_night.specs.declared.night.Made.{Made}
use Rattle.hub_night.specs.declared.side.Side.{Side}
use Rattle.hub_folder.specs.declared.older.Older.{Older}
use Rattle.hub_folder.specs.declared.papers.HubPapers.{HubPapers}
use Rattle.hub_night.specs.declared.setting.Setting.{Setting}

-- the table of the interchanges of which a set was delivered, and that of all addresses
pub record AreTablesOf (track : List ℕ) (delivered : List (List ℕ)) (older left : List AddressNext) (tables : List NightFile)
    : Type 0 where
  pub addresses : List AddressNext
  pub addresses_are : IsNextOf older left addresses
  pub tables_are : tables ≡ table_files track (taken_text (taken_of delivered)) (addresses_text addresses)

-- tonight's mark: it names the night before
abbrev pub mark_of : (folder at before : List ℕ) → NightMark
mark_of folder at before = record { name = folder; moment = at; before = before; is_archived = false }

-- the heading of the night's record
pub record IsHeadingOf (setting : Setting) (number : ℕ) (chain : Chain) (status : ℕ) (heading : Heading) : Type 0 where
  pub number_is : heading.number ≡ number
  pub name_is : heading.name.now ≡ setting.name.now
  pub moment_is : heading.moment.now ≡ setting.at
  pub before_is : heading.before.now ≡ chain.before
  pub sum_is : option_map (λ sum. sum.now) heading.before_sum ≡ chain.before_sum
  pub status_is : heading.status ≡ status

-- the files of a hub as bytes
pub record AreHubFiles (papers : HubPapers) (files : HubFiles) : Type 0 where
  pub setup : files.setup.now ≡ bytes_or_none papers.setup.bytes
  pub guides : files.guides.now ≡ papers.guides

-- the night of an input, after nights of which the oldest comes first
pub record IsTonightOf (setting : Setting) (papers : HubPapers) (nights : List NightEntry) (input : List ℕ) (tonight : Tonight)
    : Type 0 where
  pub files : HubFiles
  pub files_are : AreHubFiles papers files
  pub tonight_is : IsTonight files (reverse nights) (bytes_or_none papers.first.bytes) input setting.at tonight

-- a night whose files are named as they are in its folder
pub record IsLaidOf (tonight : Tonight) (laid : Laid) : Type 0 where
  pub given : laid.given ≡ given_files tonight
  pub counters : laid.counters ≡ tonight.counters
  pub total : laid.total ≡ tonight.total
  pub track : laid.track ≡ tonight.track
  pub status : laid.status ≡ tonight.status
  pub left : laid.left ≡ tonight.left

-- what is kept of it in its folder
pub record IsEntryOfNight (setting : Setting) (folder : List ℕ) (papers : HubPapers) (laid : Laid) (input again : List ℕ)
    (entry : NightEntry) : Type 0 where
  pub night : NightBytes
  pub name : night.name.now ≡ folder
  pub at : night.at.now ≡ setting.at
  pub setup : night.setup.now ≡ bytes_or_none papers.setup.bytes
  pub counters : night.counters.now ≡ laid.counters
  pub input_is : night.input.now ≡ input
  pub track : night.track.now ≡ laid.track
  pub again_is : night.again.now ≡ again
  pub given : night.given.now ≡ laid.given
  pub entry_is : IsEntryIn night entry

-- the files of its folder
abbrev pub AreFilesOf : Heading → HubPapers → Laid → (tables came files : List NightFile) → Type 0
AreFilesOf heading papers laid tables came files =
    AreKeptFiles heading (made_files (bytes_or_none papers.setup.bytes) papers.guides laid.counters came) laid.given tables files

-- A draft of a night: of the files of the hub and of an input, after the nights that the hub has. The table `again` has the sets that are
-- asked for again.
pub record IsDraftOf (setting : Setting) (older : Older) (papers : HubPapers) (input again : List ℕ) (draft : Draft) : Type 0 where
  pub tonight : Tonight
  pub tonight_is : IsTonightOf setting papers older.entries input tonight
  pub laid_is : IsLaidOf tonight draft.laid
  pub number_is : draft.number ≡ night_count (map_now older.order) + 1
  pub folder_is : draft.folder ≡ folder_after (night_count (map_now older.order)) setting.name.now
  pub entry_is : IsEntryOfNight setting draft.folder papers draft.laid input again draft.entry
  pub tables_are : AreTablesOf draft.laid.track draft.entry.delivered older.chain.addresses draft.laid.left draft.tables

-- all nights with it continue, and the next one takes over what the hub has of the last
pub record IsSoundAfter (setting : Setting) (older : Older) (folder : List ℕ) (entry : NightEntry) (chain : Chain) : Type 0 where
  pub chain_is : chain ≡ older.chain
  pub go_on : GoOn setting.limit.now folder (map_now older.order ++ mark_of folder setting.at older.chain.before ∷ [])
      (older.entries ++ entry ∷ []) older.bad

-- 1 if a file of the day didn't go in whole
abbrev pub status_by : (status : ℕ) → (is_whole : Bool) → ℕ
status_by status is_whole = if is_whole then status else 1

-- the lines on guides that have changed are guides.txt, those on the files of the day files.txt
abbrev pub with_lines : (tables : List NightFile) → (guides files : List ℕ) → List NightFile
with_lines tables guides files = (tables ++ file (codes "guides.txt") guides ∷ []) ++ file (codes "files.txt") files ∷ []

-- what is kept beside what the night gives: what came in, the sum of the program, and the lines that are printed
pub record IsSideOf (folder : List ℕ) (tables : List NightFile) (status : ℕ) (day : Day) (changes program : List ℕ) (side : Side)
    : Type 0 where
  pub folder_is : side.folder ≡ folder
  pub tables_are : side.tables ≡ with_lines tables changes day.lines
  pub came_are : side.came ≡ came_files day.listing day.again day.input program
  pub lines_are : side.lines ≡ changes ++ day.lines
  pub status_is : side.status ≡ status_by status day.is_whole

-- its folder is to have just these files
pub record IsMadeBy (setting : Setting) (chain : Chain) (papers : HubPapers) (number : ℕ) (laid : Laid) (side : Side) (made : Made)
    : Type 0 where
  pub number_is : made.number ≡ number
  pub name_is : made.night.name ≡ side.folder
  pub heading : Heading
  pub heading_is : IsHeadingOf setting number chain side.status heading
  pub files_are : AreFilesOf heading papers laid side.tables side.came made.night.files
  pub lines_are : made.lines ≡ side.lines
  pub total_is : made.total ≡ laid.total
  pub status_is : made.status ≡ side.status

-- A night is made of the files of a day: a draft with which all nights continue, and the files of its folder. The lines `changes` say
-- which guides have changed.
pub record IsMadeOf (setting : Setting) (older : Older) (papers : HubPapers) (day : Day) (changes : List ℕ) (made : Made) : Type 0 where
  pub draft : Draft
  pub draft_is : IsDraftOf setting older papers day.input day.again draft
  pub chain : Chain
  pub sound : IsSoundAfter setting older draft.folder draft.entry chain
  pub side : Side
  pub side_is : IsSideOf draft.folder draft.tables draft.laid.status day changes setting.program.now side
  pub made_is : IsMadeBy setting chain papers draft.number draft.laid side made
