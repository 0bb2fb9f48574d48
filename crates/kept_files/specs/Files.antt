-- The files of a night's folder (own): those that the night was made of, those that mark it, those that it gave, and its record.
use Rattle.std.specs.Prelude.{◌≡◌, ⊤, ℕ, ◌-◌, List, [], ◌∷◌, ◌++◌, Option, Some, None, codes, decimal, length, option_map}
use Rattle.std.specs.Prelude.{slice_get}
use Rattle.night_record.specs.Record.{CanBe, record_text}
use Rattle.night_record.specs.Refused.{IsBad}
use Rattle.night_record.specs.declared.fault.Part.{Part}
use Rattle.night_record.specs.declared.fault.RecordFault.{RecordFault}
use Rattle.night_record.specs.declared.fault.RecordFault.TheVariants as fault
use Rattle.night_record.specs.declared.record.NightRecord.{NightRecord}
use Rattle.night_shelf.specs.declared.night.NightFile.{NightFile}
use Rattle.kept_files.specs.Sums.{AreSortedSumsOf, AreSumsOf, line_of, sum_text, sums_text}
use Rattle.kept_files.specs.declared.heading.Heading.{Heading}

abbrev pub file : (name bytes : List ℕ) → NightFile
file name bytes = record { name = name; bytes = bytes }

-- the bytes of a file, if there is one
abbrev pub bytes_or_none : Option NightFile → List ℕ
bytes_or_none None = []
bytes_or_none (Some given) = given.bytes

-- a night's input: the last of the files that it was made of
abbrev pub input_of : (made : List NightFile) → List ℕ
input_of made = bytes_or_none (slice_get made (length made - 1))

-- the sum of the input as `sha256sum <FILE` prints it, the moment, and the folder of the night before
abbrev pub mark_files : Heading → (input : List ℕ) → List NightFile
mark_files heading input =
    file (codes "from/in.sum") (line_of (codes "-") (sum_text input)) ∷ file (codes "from/at") heading.moment.now
    ∷ file (codes "from/before") (heading.before.now ++ 10 ∷ []) ∷ []

-- the sums of the files that the night gave, and its status
abbrev pub end_files : Heading → (out : List NightFile) → List NightFile
end_files heading out =
    file (codes "sums") (sums_text out) ∷ file (codes "done") (decimal heading.status ++ 10 ∷ []) ∷ []

-- a record says what the heading says
pub record HasHeading (heading : Heading) (night : NightRecord) : Type 0 where
  pub number : night.number ≡ heading.number
  pub name : night.name ≡ heading.name.now
  pub moment : night.moment ≡ heading.moment.now
  pub before : night.before ≡ option_map (λ sum. sum.now) heading.before_sum
  pub status : night.status ≡ heading.status
  pub release : night.release ≡ heading.release.now
  pub clock : night.clock ≡ heading.clock.now

-- the record of a night: of the files that it was made of, and of those that it gave
pub record IsRecord (heading : Heading) (made given : List NightFile) (night : NightRecord) : Type 0 where
  pub can_be : CanBe night
  pub heading_is : HasHeading heading night
  pub made_of : AreSumsOf made night.made_of
  pub gave : AreSumsOf given night.gave

-- the file of that record
pub record IsRecordFile (heading : Heading) (made given : List NightFile) (last : NightFile) : Type 0 where
  pub night : NightRecord
  pub record_is : IsRecord heading made given night
  pub file_is : last ≡ file (codes "night.toml") (record_text night)

-- the files of a night's folder, in the order in which they are put there: `tables` are track.csv, taken.csv and addresses.csv
pub record AreKeptFiles (heading : Heading) (made out tables files : List NightFile) : Type 0 where
  pub last : NightFile
  pub last_is : IsRecordFile heading made (out ++ tables) last
  pub files_are : files ≡ made ++ (mark_files heading (input_of made) ++ (out ++ (tables ++ (end_files heading out ++ last ∷ []))))

-- the record that a night would have; a part of it may be one that can't be
pub record IsDraft (heading : Heading) (made given : List NightFile) (night : NightRecord) : Type 0 where
  pub heading_is : HasHeading heading night
  pub made_of : AreSortedSumsOf made night.made_of
  pub gave : AreSortedSumsOf given night.gave

-- a night's record has a part that can't be
pub record HasBadPart (heading : Heading) (made given : List NightFile) (part : Part) : Type 0 where
  pub night : NightRecord
  pub draft : IsDraft heading made given night
  pub bad : IsBad part night

-- why a night has no record: out of memory, or a part that can't be
abbrev pub IsRecordFault : Heading → (made given : List NightFile) → RecordFault → Type 0
IsRecordFault heading made given fault.Memory = ⊤
IsRecordFault heading made given fault.CutOff = ⊥
IsRecordFault heading made given (fault.Wrong part) = HasBadPart heading made given part
