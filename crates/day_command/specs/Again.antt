-- The sets of a night that go in again (own): the files of the night, and what is printed of them on both outputs.
use Rattle.std.specs.Prelude.{◌≡◌, ◌↔◌, ℕ, true, false, Bool, List, [], ◌∷◌, ◌++◌, Some, codes}
use Rattle.system_io.specs.Outbox.{path_in}
use Rattle.night_folder.specs.Files.{FileValue}
use Rattle.sets_again.specs.Again.{IsAgain}
use Rattle.sets_again.specs.Rows.{Row}
use Rattle.sets_again.specs.declared.wanted.Wanted.{Wanted}
use Rattle.sets_again.specs.declared.wanted.Wanted.TheVariants as wanted
use Rattle.track_read.specs.Table.{IsTable}
use Rattle.day_command.specs.declared.again.Again.{Again}

-- the line on standard error if no set goes in again
abbrev pub none_line : Wanted → List ℕ
none_line wanted.HeldForRoute = codes "nighthub_day: no set of the night was held for lack of a route\n"
none_line wanted.Rejected = codes "nighthub_day: no set of the night was rejected\n"

abbrev pub line_for : Wanted → (text : List ℕ) → List ℕ
line_for which [] = none_line which
line_for which (b ∷ bs) = []

abbrev pub is_filled : (text : List ℕ) → Bool
is_filled [] = false
is_filled (b ∷ bs) = true

-- the text for a night in a folder, by its input and its table
pub record IsAgainIn (night : List ℕ) (which : Wanted) (text : List ℕ) : Type 0 where
  pub input : FileValue
  pub input_is : input.path ≡ path_in night (codes "from/in.x12")
  pub bytes : List ℕ
  pub bytes_are : input.bytes ≡ Some bytes
  pub table : FileValue
  pub table_is : table.path ≡ path_in night (codes "track.csv")
  pub table_bytes : List ℕ
  pub table_bytes_are : table.bytes ≡ Some table_bytes
  pub rows : List Row
  pub rows_are : IsTable table_bytes rows
  pub again : IsAgain which bytes rows text

-- what is printed for a night of a folder: the text, and the line if it is empty
pub record IsAgainOf (nights name : List ℕ) (which : Wanted) (again : Again) : Type 0 where
  pub text_is : IsAgainIn (path_in nights name) which again.text.items
  pub line_is : again.line.items ≡ line_for which again.text.items
  pub found_is : again.is_found ≡ is_filled again.text.items
