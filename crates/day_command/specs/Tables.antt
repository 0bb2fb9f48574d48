-- The tables of the nights of a folder (own), in the nights' order: what was read of each.
use Rattle.std.specs.Prelude.{◌≡◌, ℕ, List, [], ◌++◌, codes, length}
use Rattle.std.specs.List.{AllZip}
use Rattle.system_io.specs.Outbox.{path_in}
use Rattle.night_folder.specs.Files.{FileValue}
use Rattle.night_marks.specs.Count.{unarchived}
use Rattle.night_marks.specs.Order.{in_order}
use Rattle.night_marks.specs.declared.mark.NightMark.{NightMark}
use Rattle.night_review.specs.Nights.{AreNights}
use Rattle.track_read.specs.Night.{IsStateOf}
use Rattle.track_read.specs.declared.night.NightTable.{NightTable}
use Rattle.track_read.specs.declared.night.TableState.{TableState}

-- the table of a night, by its file track.csv
pub record IsTableAt (nights : List ℕ) (mark : NightMark) (table : NightTable) : Type 0 where
  pub file : FileValue
  pub path_is : file.path ≡ path_in nights (mark.name ++ codes "/track.csv")
  pub night_is : table.night ≡ mark.name
  pub state_is : IsStateOf file.bytes table.state

-- what was read of the table of the night in a folder
pub record IsStateAt (night : List ℕ) (state : TableState) : Type 0 where
  pub file : FileValue
  pub path_is : file.path ≡ path_in night (codes "track.csv")
  pub state_is : IsStateOf file.bytes state

-- the tables of the nights of a folder that aren't archived, in the nights' order
pub record AreTables (nights : List ℕ) (tables : List NightTable) : Type 0 where
  pub marks : List NightMark
  pub marks_are : AreNights nights marks
  pub read_by : AllZip (IsTableAt nights) (unarchived (in_order (length marks) [] marks)) tables
