-- An old night made again (own): by the files in its folder, after the nights that the hub has, and it gives what it gave.
use Rattle.std.specs.Prelude.{◌≡◌, ℕ, true, false, List, [], ◌∷◌, Some, codes, length}
use Rattle.std.specs.List.Sorted.{IsPermutation}
use Rattle.day_files.specs.Listing.{listing_of}
use Rattle.day_files.specs.declared.file.Content.TheVariants as content
use Rattle.day_files.specs.declared.file.DayFile.{DayFile}
use Rattle.system_io.specs.Outbox.{path_in}
use Rattle.night_folder.specs.Files.{FileValue}
use Rattle.night_marks.specs.declared.mark.NightMark.{NightMark}
use Rattle.night_review.specs.Nights.{AreNights}
use Rattle.night_shelf.specs.declared.night.NightFile.{NightFile}
use Rattle.hub_folder.specs.Names.{is_night_name}
use Rattle.hub_night.specs.Night.{IsMadeOf}
use Rattle.hub_folder.specs.Older.{IsOlder}
use Rattle.hub_folder.specs.Papers.{ArePapersAt}
use Rattle.hub_night.specs.declared.day.Day.{Day}
use Rattle.hub_night.specs.declared.night.Made.{Made}
use Rattle.hub_folder.specs.declared.older.Older.{Older}
use Rattle.hub_folder.specs.declared.papers.HubPapers.{HubPapers}
use Rattle.hub_night.specs.declared.setting.Setting.{Setting}
use Rattle.hub_adopt.specs.Given.{AreGivenIn, given_in}
use Rattle.hub_adopt.specs.declared.adoption.Adoption.{Adoption}

-- the folder of an old night
abbrev pub old_folder : Adoption → NightMark → List ℕ
old_folder adoption mark = path_in adoption.nights.now mark.name

-- the folder of what it was made of: its setup, guides, counters and input
abbrev pub from_folder : Adoption → NightMark → List ℕ
from_folder adoption mark = path_in (old_folder adoption mark) (codes "from")

-- the folder of the hub's nights
abbrev pub hub_nights : Adoption → List ℕ
hub_nights adoption = path_in adoption.hub.now (codes "nights")

-- the night has the name and the moment of the old one, and its own files are those in the folder `from`
pub record IsSettingAgain (adoption : Adoption) (from : List ℕ) (mark : NightMark) (setting : Setting) : Type 0 where
  pub files_at : setting.hub.now ≡ from
  pub at_is : setting.at ≡ mark.moment
  pub name_is : setting.name.now ≡ mark.name
  pub can_be : is_night_name mark.name ≡ true
  pub sharing_is : setting.sharing ≡ adoption.sharing
  pub limit_is : setting.limit.now ≡ adoption.limit.now
  pub clock_is : setting.clock.now ≡ adoption.clock.now
  pub program_is : setting.program.now ≡ adoption.program.now

-- an input at its path, as a file of a day
abbrev pub day_file : (path input : List ℕ) → DayFile
day_file path input = record { path = path; content = content.Read input; is_again = false }

-- all of an input goes in, and nothing is asked for again
abbrev pub day_of : (path input : List ℕ) → Day
day_of path input = record {
  listing = listing_of (day_file path input ∷ []);
  again = [];
  input = input;
  lines = [];
  is_whole = true;
}

-- the input was read in the folder `from`
pub record IsDayAgain (from : List ℕ) (day : Day) : Type 0 where
  pub file : FileValue
  pub file_at : file.path ≡ path_in from (codes "in.x12")
  pub input : List ℕ
  pub read : file.bytes ≡ Some input
  pub day_is : day ≡ day_of file.path input

-- a night is made after older ones, of the setup, the guides, the counters and the input in the folder `from`
pub record IsMadeFrom (adoption : Adoption) (from : List ℕ) (mark : NightMark) (older : Older) (made : Made) : Type 0 where
  pub papers : HubPapers
  pub papers_are : ArePapersAt from papers
  pub day : Day
  pub day_is : IsDayAgain from day
  pub setting : Setting
  pub setting_is : IsSettingAgain adoption from mark setting
  pub made_is : IsMadeOf setting older papers day [] made

-- what a night gave is what the old one gave: the same files by name and bytes, in whatever order they are listed
pub record GivesTheSame (adoption : Adoption) (mark : NightMark) (given : List NightFile) : Type 0 where
  pub old : List NightFile
  pub old_are : AreGivenIn (old_folder adoption mark) old
  pub same : IsPermutation given old

-- an old night is made again by the files in its folder, after the nights of the hub, which are `count`, and gives the same
pub record IsMadeAgain (adoption : Adoption) (count : ℕ) (mark : NightMark) (made : Made) : Type 0 where
  pub marks : List NightMark
  pub marks_are : AreNights (hub_nights adoption) marks
  pub older : Older
  pub older_is : IsOlder (hub_nights adoption) marks older
  pub count_is : length older.order ≡ count
  pub made_is : IsMadeFrom adoption (from_folder adoption mark) mark older made
  pub gives : GivesTheSame adoption mark (given_in made.night.files)
