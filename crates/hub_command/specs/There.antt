-- The last night of a hub is the one that is asked for (own): it is there already, and nothing is run.
use Rattle.std.specs.Prelude.{◌≡◌, ◌++◌, ℕ, false, List, Option, Some, codes}
use Rattle.day_files.specs.Listing.{listing_of}
use Rattle.day_files.specs.declared.file.DayFile.{DayFile}
use Rattle.night_review.specs.GoingOn.{GoOn}
use Rattle.system_io.specs.Outbox.{path_in}
use Rattle.night_folder.specs.Files.{FileValue, bytes_or_none, in_night}
use Rattle.night_marks.specs.Count.{night_count}
use Rattle.night_marks.specs.declared.mark.NightMark.{NightMark}
use Rattle.hub_folder.specs.Names.{folder_name}
use Rattle.hub_folder.specs.Older.{last_mark, map_now}
use Rattle.hub_folder.specs.declared.chain.Chain.{Chain}
use Rattle.hub_folder.specs.declared.older.Older.{Older}
use Rattle.hub_night.specs.declared.setting.Setting.{Setting}
use Rattle.hub_command.specs.declared.there.There.{There}

-- a night that isn't archived has this number, and the name and the moment that are asked for
pub record IsNamed (setting : Setting) (number : ℕ) (mark : NightMark) : Type 0 where
  pub name_is : mark.name ≡ folder_name number setting.name.now
  pub moment_is : mark.moment ≡ setting.at
  pub unarchived : mark.is_archived ≡ false

-- the status that is written down
pub data IsStatusIn (bytes : Option (List ℕ)) (status : ℕ) : Type 0 where
  Clean : bytes ≡ Some (codes "0\n") → status ≡ 0 → IsStatusIn bytes status
  Look : bytes ≡ Some (codes "1\n") → status ≡ 1 → IsStatusIn bytes status

-- the lines that were kept of a night: on guides that had changed, where there were any, and on each file of the day
pub record AreLinesAt (folder : List ℕ) (lines : List ℕ) : Type 0 where
  pub guides : FileValue
  pub guides_at : guides.path ≡ path_in folder (codes "guides.txt")
  pub said : FileValue
  pub said_at : said.path ≡ path_in folder (codes "files.txt")
  pub files : List ℕ
  pub files_are : said.bytes ≡ Some files
  pub lines_are : lines ≡ bytes_or_none guides.bytes ++ files

-- what a night gave, by its files, and the sum of its record
pub record IsGivenAt (nights name : List ℕ) (number : ℕ) (chain : Chain) (there : There) : Type 0 where
  pub number_is : there.number ≡ number
  pub folder_is : there.folder ≡ name
  pub total : FileValue
  pub total_at : total.path ≡ in_night nights name (codes "total")
  pub total_is : total.bytes ≡ Some there.total
  pub done : FileValue
  pub done_at : done.path ≡ in_night nights name (codes "done")
  pub status_is : IsStatusIn done.bytes there.status
  pub lines : AreLinesAt (path_in nights name) there.lines
  pub sum_is : chain.before_sum ≡ Some there.record_sum

-- a night was made of the files of a list, which was written down
pub record IsOf (folder listing : List ℕ) : Type 0 where
  pub written : FileValue
  pub written_at : written.path ≡ path_in folder (codes "from/files.sum")
  pub same : written.bytes ≡ Some listing

-- the last night is the one that is asked for, and all nights continue
pub record IsThereAt (nights : List ℕ) (older : Older) (setting : Setting) (files : List DayFile) (there : There) : Type 0 where
  pub mark : NightMark
  pub last_is : last_mark older.order ≡ Some mark
  pub named : IsNamed setting (night_count (map_now older.order)) mark
  pub of : IsOf (path_in nights mark.name) (listing_of files)
  pub go_on : GoOn setting.limit.now mark.name (map_now older.order) older.entries older.bad
  pub given : IsGivenAt nights mark.name (night_count (map_now older.order)) older.chain there
