-- The files of a day (own): which of them make the night's input, and which are set aside because of a set that an older night delivered.
use Rattle.std.specs.Prelude.{◌≡◌, ℕ, Bool, true, false, List, [], ◌++◌, Option, Some, None, if◌then◌else◌, map, option_map, reverse}
use Rattle.std.specs.List.{AllZip, list_all, list_any}
use Rattle.day_files.specs.Again.{set_in}
use Rattle.day_files.specs.Lines.{lines_of}
use Rattle.day_files.specs.Listing.{listing_of}
use Rattle.day_files.specs.Members.{IsGathered, asked_again, goes_in, input_of, is_whole, part_of}
use Rattle.day_files.specs.declared.file.Content.{Content}
use Rattle.day_files.specs.declared.file.Content.TheVariants as content
use Rattle.day_files.specs.declared.file.DayFile.{DayFile}
use Rattle.day_files.specs.declared.member.Member.{Member}
use Rattle.day_files.specs.declared.member.OldSet.{OldSet}
use Rattle.file_names.specs.Given.{is_marked}
use Rattle.gather_command.specs.Members.{taken_of}
use Rattle.gather_files.specs.Apart.{text_of_files}
use Rattle.gather_files.specs.declared.gather.Taken.{Taken}
use Rattle.hub_ledger.specs.declared.entry.NightEntry.{NightEntry}
use Rattle.night_breaches.specs.Deliveries.{first_delivery}
use Rattle.night_breaches.specs.declared.deliveries.Delivery.{Delivery}
use Rattle.night_definition.specs.Interchanges.{text_of}
use Rattle.night_folder.specs.Files.{FileValue}
use Rattle.night_record.specs.Again.{again_text}
use Rattle.hub_night.specs.Night.{IsDraftOf}
use Rattle.hub_night.specs.declared.day.Day.{Day}
use Rattle.hub_night.specs.declared.day.Judged.{Judged}
use Rattle.hub_night.specs.declared.day.Judged.TheVariants as judged
use Rattle.hub_night.specs.declared.night.Draft.{Draft}
use Rattle.hub_folder.specs.declared.older.Older.{Older}
use Rattle.hub_folder.specs.declared.papers.HubPapers.{HubPapers}
use Rattle.hub_night.specs.declared.setting.Setting.{Setting}

-- the bytes of a file that was opened at its path
pub record IsInputAt (path bytes : List ℕ) : Type 0 where
  pub file : FileValue
  pub path_is : file.path ≡ path
  pub read : file.bytes ≡ Some bytes

-- what was read of the file at a path; a path that isn't UTF-8 is marked, and is never opened
abbrev pub IsContentAt : (path : List ℕ) → Content → Type 0
IsContentAt path (content.Read bytes) = (is_marked path ≡ false) × IsInputAt path bytes
IsContentAt path content.Changed = is_marked path ≡ false
IsContentAt path content.NameNotUtf8 = is_marked path ≡ true

-- a file of the day, which may be asked for again, at its path
pub record IsFileAt (is_again : Bool) (path : List ℕ) (file : DayFile) : Type 0 where
  pub path_is : file.path ≡ path
  pub content_at : IsContentAt path file.content
  pub again_is : file.is_again ≡ is_again

-- the files of a day: those of the arguments, and after them those that are asked for again
pub record AreFilesAt (setting : Setting) (files : List DayFile) : Type 0 where
  pub first : List DayFile
  pub again : List DayFile
  pub first_are : AllZip (IsFileAt false) (map (λ f. f.now) setting.files.now) first
  pub again_are : AllZip (IsFileAt true) (map (λ f. f.now) setting.again.now) again
  pub files_are : files ≡ first ++ again

abbrev pub old_set : Option Delivery → Option OldSet
old_set delivery = option_map (λ (d : Delivery). record { key = d.key; night = d.night }) delivery

-- the sets that the night of the bytes `closed` alone delivers
pub record AreDeliveredAlone (setting : Setting) (older : Older) (papers : HubPapers) (closed : List ℕ) (keys : List (List ℕ))
    : Type 0 where
  pub draft : Draft
  pub draft_is : IsDraftOf setting older papers closed [] draft
  pub keys_are : keys ≡ draft.entry.delivered

-- a file that isn't taken has no night
abbrev pub AreKeysAlone : Setting → Older → HubPapers → Option Taken → (closed : List ℕ) → (keys : List (List ℕ)) → Type 0
AreKeysAlone setting older papers None closed keys = keys ≡ []
AreKeysAlone setting older papers (Some taken) closed keys = AreDeliveredAlone setting older papers closed keys

-- the first of these sets that an older night delivered to the same receiver; a file that is asked for again has none
abbrev pub old_by : (older : List NightEntry) → (is_again : Bool) → (keys : List (List ℕ)) → Option OldSet
old_by older is_again keys = if is_again then None else old_set (first_delivery older keys)

-- these sets are free if the file is asked for again
abbrev pub freed_by : (is_again : Bool) → (keys : List (List ℕ)) → Option (List (List ℕ))
freed_by is_again keys = if is_again then Some keys else None

-- a file of the day, gathered and judged by itself
pub record IsMemberOf (setting : Setting) (older : Older) (papers : HubPapers) (file : DayFile) (m : Member) : Type 0 where
  pub path_is : m.path ≡ file.path
  pub gathered : IsGathered file.content m.outcome m.closed
  pub keys : List (List ℕ)
  pub keys_are : AreKeysAlone setting older papers (taken_of m.outcome) m.closed keys
  pub old_is : m.old ≡ old_by (reverse older.entries) file.is_again keys
  pub again_is : m.again ≡ freed_by file.is_again keys

-- The files of a day: the input is what goes in of those that are taken and have no old set, which a night reads each alone.
pub record IsDayOf (setting : Setting) (older : Older) (papers : HubPapers) (files : List DayFile) (day : Day) : Type 0 where
  pub members : List Member
  pub members_are : AllZip (IsMemberOf setting older papers) files members
  pub some : list_any goes_in members ≡ true
  pub listing_is : day.listing ≡ listing_of files
  pub again_is : day.again ≡ again_text (map set_in (asked_again members))
  pub input_is : day.input ≡ input_of members
  pub alone : text_of day.input ≡ text_of_files (map part_of members)
  pub lines_are : day.lines ≡ lines_of 1 0 members
  pub whole_is : day.is_whole ≡ list_all is_whole members

-- each file is set aside
pub record AreAside (setting : Setting) (older : Older) (papers : HubPapers) (files : List DayFile) (lines : List ℕ) : Type 0 where
  pub members : List Member
  pub members_are : AllZip (IsMemberOf setting older papers) files members
  pub none : list_any goes_in members ≡ false
  pub lines_are : lines ≡ lines_of 1 0 members

abbrev pub IsJudgedDay : Setting → Older → HubPapers → List DayFile → Judged → Type 0
IsJudgedDay setting older papers files (judged.Aside lines) = AreAside setting older papers files lines
IsJudgedDay setting older papers files (judged.Day day) = IsDayOf setting older papers files day
