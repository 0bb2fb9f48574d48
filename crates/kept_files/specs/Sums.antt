-- The sums of files (FIPS 180-4, SHA-256): each is written in hexadecimal digits, as sha256sum prints it.
use Rattle.std.specs.Prelude.{◌≡◌, ℕ, true, List, map}
use Rattle.std.specs.List.{flat_map}
use Rattle.std.specs.List.Sorted.{IsPermutation, IsSorted}
use Rattle.hex.specs.Hex.{encode_lower}
use Rattle.sha2.specs.Sha256.{sha256}
use Rattle.hub_kinds.specs.Rising.{order_by}
use Rattle.night_entries.specs.Files.{sum_line}
use Rattle.night_record.specs.Values.{are_rising}
use Rattle.night_record.specs.declared.record.SummedFile.{SummedFile}
use Rattle.night_shelf.specs.declared.night.NightFile.{NightFile}

-- the SHA-256 of bytes in hexadecimal digits
abbrev pub sum_text : (bytes : List ℕ) → List ℕ
sum_text bytes = encode_lower (sha256 bytes)

-- a file's name, and the sum of its bytes
abbrev pub sum_of : NightFile → SummedFile
sum_of file = record { name = file.name; sum = sum_text file.bytes }

-- a line that sha256sum prints
abbrev pub line_of : (name sum : List ℕ) → List ℕ
line_of name sum = sum_line (record { name = name; sum = sum })

-- the lines that sha256sum prints of files
abbrev pub sums_text : List NightFile → List ℕ
sums_text files = flat_map (λ (file : NightFile). line_of file.name (sum_text file.bytes)) files

abbrev pub name_of : SummedFile → List ℕ
name_of sum = sum.name

-- the sums of files, by their names in the order of bytes, each once
pub record AreSumsOf (files : List NightFile) (sums : List SummedFile) : Type 0 where
  pub all : IsPermutation (map sum_of files) sums
  pub order : are_rising (map name_of sums) ≡ true

-- the sums of files, by their names in the order of bytes; two files may have one name
pub record AreSortedSumsOf (files : List NightFile) (sums : List SummedFile) : Type 0 where
  pub all : IsPermutation (map sum_of files) sums
  pub order : IsSorted (order_by name_of) sums
