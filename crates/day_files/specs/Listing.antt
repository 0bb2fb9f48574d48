-- The list of the files of a day (own; FIPS 180-4): each by its SHA-256 in hexadecimal digits and its path, as sha256sum prints it. A file
-- whose bytes weren't read has a hyphen in place of the sum.
use Rattle.std.specs.Prelude.{ℕ, Bool, List, ◌++◌, codes, if◌then◌else◌}
use Rattle.std.specs.List.{flat_map}
use Rattle.file_names.specs.Shown.{shown}
use Rattle.hex.specs.Hex.{encode_lower}
use Rattle.sha2.specs.Sha256.{sha256}
use Rattle.day_files.specs.declared.file.Content.{Content}
use Rattle.day_files.specs.declared.file.Content.TheVariants as content
use Rattle.day_files.specs.declared.file.DayFile.{DayFile}

abbrev pub sum_in : Content → List ℕ
sum_in (content.Read bytes) = encode_lower (sha256 bytes)
sum_in content.Changed = codes "-"
sum_in content.NameNotUtf8 = codes "-"

-- an asterisk in place of the second space marks a file that is asked for again
abbrev pub between : (is_again : Bool) → List ℕ
between is_again = if is_again then codes " *" else codes "  "

abbrev pub line_of : DayFile → List ℕ
line_of file = sum_in file.content ++ (between file.is_again ++ (shown file.path ++ codes "\n"))

abbrev pub listing_of : List DayFile → List ℕ
listing_of files = flat_map line_of files
