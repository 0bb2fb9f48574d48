-- A run of a hub's night (own): the night is made and kept, or it is there already.
use Rattle.std.specs.Prelude.{◌≡◌, ◌≤◌, ◌-◌, ◌⊎◌, ⊤, ℕ, List, [], Option, Some, None, codes, length, map, slice_get}
use Rattle.std.specs.List.{AllZip}
use Rattle.day_files.specs.declared.file.DayFile.{DayFile}
use Rattle.kept_files.specs.Sums.{sum_text}
use Rattle.system_io.specs.Outbox.{path_in}
use Rattle.night_marks.specs.declared.mark.NightMark.{NightMark}
use Rattle.night_shelf.specs.Shelf.{Changes, IsKept, MayLeave, Place}
use Rattle.night_shelf.specs.declared.night.KeptNight.{KeptNight}
use Rattle.night_shelf.specs.declared.night.NightFile.{NightFile}
use Rattle.night_review.specs.Nights.{AreNights}
use Rattle.hub_command.specs.Changed.{AreChangesAt}
use Rattle.hub_night.specs.Day.{AreAside, AreFilesAt, IsDayOf}
use Rattle.hub_command.specs.Lines.{ready_text}
use Rattle.hub_night.specs.Night.{IsMadeOf}
use Rattle.hub_folder.specs.Older.{IsOlder}
use Rattle.hub_folder.specs.Papers.{ArePapersAt}
use Rattle.hub_command.specs.There.{IsThereAt}
use Rattle.hub_night.specs.declared.day.Day.{Day}
use Rattle.hub_folder.specs.declared.failure.Failure.{Failure}
use Rattle.hub_folder.specs.declared.failure.Failure.TheVariants as failure
use Rattle.hub_night.specs.declared.night.Made.{Made}
use Rattle.hub_folder.specs.declared.older.Older.{Older}
use Rattle.hub_folder.specs.declared.papers.HubPapers.{HubPapers}
use Rattle.hub_command.specs.declared.ready.Ready.{Ready}
use Rattle.hub_command.specs.declared.run.Found.{Found}
use Rattle.hub_command.specs.declared.run.Found.TheVariants as found
use Rattle.hub_night.specs.declared.setting.Setting.{Setting}
use Rattle.hub_command.specs.declared.there.There.{There}
use Rattle.hub_folder.specs.declared.told.Told.{Told}

-- the nights of the hub's folder and the files of the day, as they were read
pub record IsSeen (setting : Setting) (older : Older) (files : List DayFile) : Type 0 where
  pub marks : List NightMark
  pub marks_are : AreNights (path_in setting.hub.now (codes "nights")) marks
  pub older_is : IsOlder (path_in setting.hub.now (codes "nights")) marks older
  pub files_are : AreFilesAt setting files

-- a night is made of the files of a day, with what is said of guides that have changed since the last night
pub record IsMadeWith (setting : Setting) (older : Older) (papers : HubPapers) (day : Day) (made : Made) : Type 0 where
  pub changes : List ℕ
  pub changes_are : AreChangesAt setting.hub.now older.chain.before papers.guides changes
  pub made_is : IsMadeOf setting older papers day changes made

-- a night is made of them, by the hub's own files
pub record IsMadeAt (setting : Setting) (made : Made) : Type 0 where
  pub older : Older
  pub files : List DayFile
  pub seen : IsSeen setting older files
  pub papers : HubPapers
  pub papers_are : ArePapersAt setting.hub.now papers
  pub day : Day
  pub day_is : IsDayOf setting older papers files day
  pub made_is : IsMadeWith setting older papers day made

-- each of them is set aside
pub record AreAsideAt (setting : Setting) (lines : List ℕ) : Type 0 where
  pub older : Older
  pub files : List DayFile
  pub seen : IsSeen setting older files
  pub papers : HubPapers
  pub papers_are : ArePapersAt setting.hub.now papers
  pub aside : AreAside setting older papers files lines

-- the night is the last of them
pub record IsThere (setting : Setting) (there : There) : Type 0 where
  pub older : Older
  pub files : List DayFile
  pub seen : IsSeen setting older files
  pub there_is : IsThereAt (path_in setting.hub.now (codes "nights")) older setting files there

-- a run fails before anything is printed; it says that each file is set aside only if each is
abbrev pub IsFailureOf : Setting → Failure → Type 0
IsFailureOf setting failure.Stdout = ⊥
IsFailureOf setting (failure.AllAside lines) = AreAsideAt setting lines
IsFailureOf setting _ = Unit {0}

abbrev pub IsFoundAt : Setting → Found → Type 0
IsFoundAt setting (found.There there) = IsThere setting there
IsFoundAt setting (found.Aside lines) = AreAsideAt setting lines
IsFoundAt setting (found.Made made) = IsMadeAt setting made

abbrev pub sum_or_none : Option NightFile → List ℕ
sum_or_none None = []
sum_or_none (Some file) = sum_text file.bytes

-- the sum of a night's record, which is the last of its files
abbrev pub record_sum : List NightFile → List ℕ
record_sum files = sum_or_none (slice_get files (length files - 1))

-- what is said of a night that is made
pub record IsReadyOf (setting : Setting) (made : Made) (sum : List ℕ) (ready : Ready) : Type 0 where
  pub hub : ready.hub.now ≡ setting.hub.now
  pub number : ready.number ≡ made.number
  pub name : ready.name.now ≡ setting.name.now
  pub folder : ready.folder.now ≡ made.night.name
  pub lines : ready.lines.now ≡ made.lines
  pub total : ready.total.now ≡ made.total
  pub sum_is : ready.record_sum.now ≡ sum

-- what is said of it, once it may be sent
pub record IsToldOf (setting : Setting) (made : Made) (told : Told) : Type 0 where
  pub ready : Ready
  pub ready_is : IsReadyOf setting made (record_sum made.night.files) ready
  pub text_is : told.text.items ≡ ready_text ready
  pub status_is : told.status ≡ made.status

-- what is said of the last night
pub record IsReadyAgain (setting : Setting) (there : There) (ready : Ready) : Type 0 where
  pub hub : ready.hub.now ≡ setting.hub.now
  pub number : ready.number ≡ there.number
  pub name : ready.name.now ≡ setting.name.now
  pub folder : ready.folder.now ≡ there.folder
  pub lines : ready.lines.now ≡ there.lines
  pub total : ready.total.now ≡ there.total
  pub sum_is : ready.record_sum.now ≡ there.record_sum

pub record IsToldAgain (setting : Setting) (there : There) (told : Told) : Type 0 where
  pub ready : Ready
  pub ready_is : IsReadyAgain setting there ready
  pub text_is : told.text.items ≡ ready_text ready
  pub status_is : told.status ≡ there.status

-- the night was made, and is kept
pub record IsKeptNow (setting : Setting) (old new : Option Place) (told : Told) : Type 0 where
  pub made : Made
  pub made_at : IsMadeAt setting made
  pub kept : Changes (IsKept made.night) old new
  pub told_is : IsToldOf setting made told

-- the night was there, and the shelf is as it was
pub record WasThere (setting : Setting) (old new : Option Place) (told : Told) : Type 0 where
  pub there : There
  pub there_is : IsThere setting there
  pub same : new ≡ old
  pub told_is : IsToldAgain setting there told

abbrev pub IsDone : Setting → (old new : Option Place) → Told → Type 0
IsDone setting old new told = IsKeptNow setting old new told ⊎ WasThere setting old new told

-- the shelf is as it was, or a stop leaves the nights as they were or with this one
abbrev pub MayKeep : KeptNight → (old new : Option Place) → Type 0
MayKeep night old new = (new ≡ old) ⊎ Changes (MayLeave night) old new

-- of a failure, too: no other night than the one that was made can be there
pub record MayLeaveMade (setting : Setting) (old new : Option Place) : Type 0 where
  pub made : Made
  pub made_at : IsMadeAt setting made
  pub left : Changes (MayLeave made.night) old new

abbrev pub MayLeaveOne : Setting → (old new : Option Place) → Type 0
MayLeaveOne setting old new = (new ≡ old) ⊎ MayLeaveMade setting old new
