-- The program that makes a night (FIPS 180-4; own): the sum of its file, as sha256sum prints it.
use Rattle.std.specs.Prelude.{◌≡◌, ℕ, List, [], Option, Some, None, codes}
use Rattle.kept_files.specs.Sums.{line_of, sum_text}
use Rattle.system_io.specs.Outbox.{path_in}
use Rattle.night_folder.specs.Files.{FileValue}

-- the line of the program's file, which has these bytes
abbrev pub line_of_program : (bytes : List ℕ) → List ℕ
line_of_program bytes = line_of (codes "nighthub_day") (sum_text bytes)

-- none if it can't be read
abbrev pub line_by : (bytes : Option (List ℕ)) → List ℕ
line_by None = []
line_by (Some bytes) = line_of_program bytes

-- the file that the system runs was read, and this is its line
pub record IsProgramLine (line : List ℕ) : Type 0 where
  pub file : FileValue
  pub path_is : file.path ≡ path_in (codes "/proc/self") (codes "exe")
  pub line_is : line ≡ line_by file.bytes
