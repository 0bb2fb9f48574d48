-- What a page shows of a night's record (own): its sum, and what the clock of the host said, by the bytes of its file night.toml.
use Rattle.std.specs.Prelude.{◌≡◌, ℕ, List, Option, Some, None, codes}
use Rattle.hex.specs.Hex.{encode_lower}
use Rattle.sha2.specs.Sha256.{sha256}
use Rattle.system_io.specs.Outbox.{path_in}
use Rattle.night_folder.specs.Files.{FileValue}
use Rattle.night_page.specs.declared.record.RecordShown.{RecordShown}
use Rattle.night_record.specs.Record.{IsRecordOf}
use Rattle.night_record.specs.declared.record.NightRecord.{NightRecord}
use Rattle.record_review.specs.Records.{AreRefused}

-- what the clock said by a record; bytes that are no record have none
abbrev pub IsClockOf : (bytes : List ℕ) → Option (List ℕ) → Type 0
IsClockOf bytes None = AreRefused bytes
IsClockOf bytes (Some clock) = (night : NightRecord) × IsRecordOf bytes night × (clock ≡ night.clock)

pub record IsShownOf (bytes : List ℕ) (shown : RecordShown) : Type 0 where
  pub sum_is : shown.sum ≡ encode_lower (sha256 bytes)
  pub clock_is : IsClockOf bytes shown.clock

-- a night without the file shows none
abbrev pub IsShownIn : Option (List ℕ) → Option RecordShown → Type 0
IsShownIn None shown = shown ≡ None
IsShownIn (Some bytes) None = ⊥
IsShownIn (Some bytes) (Some shown) = IsShownOf bytes shown

-- what is shown of the record of the night in a folder
pub record IsShownAt (night : List ℕ) (shown : Option RecordShown) : Type 0 where
  pub file : FileValue
  pub path_is : file.path ≡ path_in night (codes "night.toml")
  pub shown_is : IsShownIn file.bytes shown
