-- The folder of old nights (own), which is only read: its nights, and that they continue.
use Rattle.std.specs.Prelude.{◌≡◌, ◌||◌, ℕ, Bool, true, List, Some, codes}
use Rattle.std.specs.List.{AllZip, filter_map, list_all, list_any}
use Rattle.std.specs.Str.{bytes_eq}
use Rattle.system_io.specs.Outbox.{path_in}
use Rattle.night_folder.specs.Files.{FileValue, FolderValue, bytes_or_none, first_line}
use Rattle.night_folder.specs.Marks.{is_hidden}
use Rattle.night_folder.specs.Nights.{IsRead, bad_in, entry_in}
use Rattle.night_folder.specs.declared.night.NightRead.{NightRead}
use Rattle.night_marks.specs.declared.mark.NightMark.{NightMark}
use Rattle.night_review.specs.GoingOn.{GoOn}
use Rattle.night_review.specs.Nights.{AreNights}

-- a night has this name
abbrev pub is_named : NightMark → (name : List ℕ) → Bool
is_named mark name = bytes_eq mark.name name

-- one of these nights has the name
abbrev pub has_night : List NightMark → (name : List ℕ) → Bool
has_night marks name = list_any (λ (mark : NightMark). is_named mark name) marks

-- a name in the folder is that of one of these nights, or begins with a dot
abbrev pub is_known : List NightMark → (name : List ℕ) → Bool
is_known marks name = is_hidden name || has_night marks name

-- the nights of the folder: each name in it is that of a night that is done, or begins with a dot
pub record AreAllDone (nights : List ℕ) (marks : List NightMark) : Type 0 where
  pub nights_are : AreNights nights marks
  pub folder : FolderValue
  pub folder_at : folder.path ≡ nights
  pub names : List (List ℕ)
  pub listed : folder.names ≡ Some names
  pub each : list_all (is_known marks) names ≡ true

-- nights that were read continue, and the last of them is the one that the file .last names
pub record Continue (limit nights : List ℕ) (order : List NightMark) : Type 0 where
  pub reads : List NightRead
  pub read_by : AllZip (IsRead nights) order reads
  pub last : FileValue
  pub last_at : last.path ≡ path_in nights (codes ".last")
  pub go_on : GoOn limit (first_line (bytes_or_none last.bytes)) order (filter_map entry_in reads) (filter_map bad_in reads)
