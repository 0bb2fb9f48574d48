-- The record of a night (own): what it says, when it can be, and the text that it is written as, which a TOML reader takes too.
use Rattle.std.specs.Prelude.{◌≡◌, ◌&&◌, ℕ, Bool, true, List, [], ◌∷◌, ◌++◌, Option, Some, None, codes, decimal, map}
use Rattle.std.specs.List.{list_all}
use Rattle.night_record.specs.Lines.{lines_text}
use Rattle.night_record.specs.Values.{are_rising, is_count, is_moment, is_name, is_status, is_sum}
use Rattle.night_record.specs.declared.record.NightRecord.{NightRecord}
use Rattle.night_record.specs.declared.record.SummedFile.{SummedFile}

-- `KEY = NUMBER`
abbrev pub number_line : (key : List ℕ) → ℕ → List ℕ
number_line key n = key ++ (codes " = " ++ decimal n)

-- `KEY = "VALUE"`
abbrev pub text_line : (key value : List ℕ) → List ℕ
text_line key value = key ++ (codes " = \"" ++ (value ++ codes "\""))

-- `"NAME" = "SUM"`
abbrev pub file_line : SummedFile → List ℕ
file_line file = codes "\"" ++ (file.name ++ (codes "\" = \"" ++ (file.sum ++ codes "\"")))

-- the sum of the record of the night before; the first night has none
abbrev pub before_text : Option (List ℕ) → List ℕ
before_text None = codes "none"
before_text (Some sum) = sum

abbrev pub version_line : List ℕ
version_line = codes "version = 1"

-- the first lines of a record
abbrev pub head_lines : NightRecord → List (List ℕ)
head_lines night =
    version_line ∷ number_line (codes "number") night.number ∷ text_line (codes "name") night.name
    ∷ text_line (codes "moment") night.moment ∷ text_line (codes "before") (before_text night.before)
    ∷ number_line (codes "status") night.status ∷ text_line (codes "release") night.release ∷ text_line (codes "clock") night.clock ∷ []

-- an empty line, a title, and a line for each file
abbrev pub files_lines : (title : List ℕ) → List SummedFile → List (List ℕ)
files_lines title files = [] ∷ title ∷ map file_line files

-- the lines of a record
abbrev pub record_lines : NightRecord → List (List ℕ)
record_lines night =
    head_lines night ++ (files_lines (codes "[made_of]") night.made_of ++ files_lines (codes "[gave]") night.gave)

-- the text of a record
abbrev pub record_text : NightRecord → List ℕ
record_text night = lines_text (record_lines night)

abbrev pub is_file : SummedFile → Bool
is_file file = is_name file.name && is_sum file.sum

abbrev pub is_before : Option (List ℕ) → Bool
is_before None = true
is_before (Some sum) = is_sum sum

-- files by their names, in the order of bytes, each once
abbrev pub are_files : List SummedFile → Bool
are_files files = list_all is_file files && are_rising (map (λ (file : SummedFile). file.name) files)

-- a record that can be
pub record CanBe (night : NightRecord) : Type 0 where
  pub number : is_count night.number ≡ true
  pub name : is_name night.name ≡ true
  pub moment : is_moment night.moment ≡ true
  pub before : is_before night.before ≡ true
  pub status : is_status night.status ≡ true
  pub release : is_name night.release ≡ true
  pub clock : is_moment night.clock ≡ true
  pub made_of : are_files night.made_of ≡ true
  pub gave : are_files night.gave ≡ true

-- bytes are the text of a record
pub record IsRecordOf (bytes : List ℕ) (night : NightRecord) : Type 0 where
  pub text : bytes ≡ record_text night
  pub can_be : CanBe night
