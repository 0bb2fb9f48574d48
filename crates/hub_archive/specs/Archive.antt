-- Nights of a hub that are archived (own): all but the last ones, as one entry that later nights ask in their place.
use Rattle.std.specs.Prelude.{◌≡◌, ◌-◌, ◌⊎◌, ◌||◌, ℕ, Bool, not, true, false, List, [], Option, None, Some, codes, drop, if◌then◌else◌}
use Rattle.std.specs.Prelude.{length, nat_le, reverse, take}
use Rattle.std.specs.Cmp.Lexicographic.{slice_cmp}
use Rattle.std.specs.List.{list_all}
use Rattle.std.specs.Ordering.{is_lt, nat_cmp}
use Rattle.archived_nights.specs.Archive.{entry_of}
use Rattle.archived_nights.specs.Archived.{IsArchiveOf}
use Rattle.archived_nights.specs.Files.{archive_files}
use Rattle.archived_nights.specs.declared.archive.Archive.{Archive}
use Rattle.hub_ledger.specs.declared.entry.NightEntry.{NightEntry}
use Rattle.system_io.specs.Outbox.{path_in}
use Rattle.night_folder.specs.Files.{FileValue, in_night}
use Rattle.night_marks.specs.Count.{unarchived}
use Rattle.night_marks.specs.declared.mark.NightMark.{NightMark}
use Rattle.night_review.specs.GoingOn.{GoOn}
use Rattle.night_review.specs.Nights.{AreNights}
use Rattle.night_shelf.specs.Shelf.{Changes, IsKept, MayLeave, Place}
use Rattle.night_shelf.specs.declared.night.KeptNight.{KeptNight}
use Rattle.hub_folder.specs.Older.{IsOlder, last_mark, map_now}
use Rattle.hub_folder.specs.declared.older.Older.{Older}
use Rattle.hub_archive.specs.declared.archiving.Archiving.{Archiving}
use Rattle.hub_archive.specs.declared.made.Made.{Made}
use denote.Ref.{Bor}

abbrev pub name_in : Option NightMark → List ℕ
name_in None = []
name_in (Some mark) = mark.name

-- the name of the last night; empty without nights
abbrev pub last_name : List (Bor NightMark) → List ℕ
last_name order = name_in (last_mark order)

-- a night whose name comes after another, in the order of their bytes
abbrev pub is_after : (name : List ℕ) → Bor NightMark → Bool
is_after name mark = is_lt (slice_cmp nat_cmp name mark.now.name)

abbrev pub is_not_after : (name : List ℕ) → Bor NightMark → Bool
is_not_after name mark = not (is_after name mark)

-- a name parts nights: it doesn't come before the first `count`, and comes before the others
pub record IsSplit (name : List ℕ) (count : ℕ) (order : List (Bor NightMark)) : Type 0 where
  pub first : list_all (is_not_after name) (take count order) ≡ true
  pub rest : list_all (is_after name) (drop count order) ≡ true

-- the nights of a hub, which continue
pub record AreSeen (archiving : Archiving) (older : Older) : Type 0 where
  pub marks : List NightMark
  pub marks_are : AreNights (path_in archiving.hub.now (codes "nights")) marks
  pub older_is : IsOlder (path_in archiving.hub.now (codes "nights")) marks older
  pub go_on : GoOn archiving.limit.now (last_name older.order) (map_now older.order) older.entries older.bad

-- how many of `all` nights are archived together so that `keep` are left, `left` of which aren't archived yet; none if there are no more
abbrev pub count_by : (left all keep : ℕ) → Option ℕ
count_by left all keep = if nat_le left keep || nat_le all keep then None else Some (all - keep)

-- how many of the first nights are archived together
abbrev pub count_of : Older → (keep : ℕ) → Option ℕ
count_of older keep = count_by (length (unarchived (map_now older.order))) (length older.order) keep

-- the entry of nights, the oldest of which comes first
abbrev pub IsArchiveOfNights : List NightEntry → Archive → Type 0
IsArchiveOfNights nights archive = IsArchiveOf (reverse nights) (entry_of archive)

-- the bytes of a night's record
pub record IsRecordAt (nights name bytes : List ℕ) : Type 0 where
  pub file : FileValue
  pub path_is : file.path ≡ in_night nights name (codes "night.toml")
  pub bytes_are : file.bytes ≡ Some bytes

-- the files of an archive are in a folder of its name
pub record IsMadeOf (archive : Archive) (of_last : List ℕ) (made : Made) : Type 0 where
  pub name_is : made.night.name ≡ archive.name
  pub files_are : made.night.files ≡ archive_files archive of_last

-- the archive of the first `count` nights of a folder, whose record is that of the last of them; its name parts them from the others
pub record IsMadeFrom (nights : List ℕ) (older : Older) (count : ℕ) (made : Made) : Type 0 where
  pub archive : Archive
  pub archive_is : IsArchiveOfNights (take count older.entries) archive
  pub split : IsSplit archive.name count older.order
  pub of_last : List ℕ
  pub of_last_is : IsRecordAt nights archive.name of_last
  pub made_is : IsMadeOf archive of_last made

-- all nights but the last ones are archived
pub record IsArchived (archiving : Archiving) (made : Made) : Type 0 where
  pub older : Older
  pub seen : AreSeen archiving older
  pub count : ℕ
  pub count_is : count_of older archiving.keep ≡ Some count
  pub made_is : IsMadeFrom (path_in archiving.hub.now (codes "nights")) older count made

-- the hub has no more nights than are kept
pub record HasFew (archiving : Archiving) : Type 0 where
  pub older : Older
  pub seen : AreSeen archiving older
  pub few : count_of older archiving.keep ≡ None

abbrev pub IsFoundAt : Archiving → Option Made → Type 0
IsFoundAt archiving None = HasFew archiving
IsFoundAt archiving (Some made) = IsArchived archiving made

-- the archive was made, and is kept
pub record IsKeptNow (archiving : Archiving) (old new : Option Place) : Type 0 where
  pub made : Made
  pub made_is : IsArchived archiving made
  pub kept : Changes (IsKept made.night) old new

-- the archive is kept; or the hub has no more nights, and the shelf is as it was
abbrev pub IsDone : Archiving → (old new : Option Place) → (is_kept : Bool) → Type 0
IsDone archiving old new true = IsKeptNow archiving old new
IsDone archiving old new false = HasFew archiving × (new ≡ old)

-- the shelf is as it was, or a stop leaves the archives as they were or with this one
abbrev pub MayKeep : KeptNight → (old new : Option Place) → Type 0
MayKeep night old new = (new ≡ old) ⊎ Changes (MayLeave night) old new

-- of a failure, too: no other archive than the one that was made can be there
pub record MayLeaveMade (archiving : Archiving) (old new : Option Place) : Type 0 where
  pub made : Made
  pub made_is : IsArchived archiving made
  pub left : Changes (MayLeave made.night) old new

abbrev pub MayLeaveOne : Archiving → (old new : Option Place) → Type 0
MayLeaveOne archiving old new = (new ≡ old) ⊎ MayLeaveMade archiving old new
