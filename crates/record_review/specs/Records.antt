-- The records of nights as they were read (own), each with the files that were found in its night's folder.
use Rattle.std.specs.Prelude.{◌≡◌, ◌≢◌, ℕ, Bool, true, false, List, Option, Some, None, codes}
use Rattle.hex.specs.Hex.{encode_lower}
use Rattle.sha2.specs.Sha256.{sha256}
use Rattle.system_io.specs.Outbox.{path_in}
use Rattle.night_folder.specs.Files.{FileValue, in_night}
use Rattle.night_marks.specs.declared.mark.NightMark.{NightMark}
use Rattle.night_record.specs.Record.{IsRecordOf}
use Rattle.night_record.specs.Refused.{IsReadFault}
use Rattle.night_record.specs.declared.fault.RecordFault.{RecordFault}
use Rattle.night_record.specs.declared.fault.RecordFault.TheVariants as fault
use Rattle.night_record.specs.declared.record.NightRecord.{NightRecord}
use Rattle.record_chain.specs.declared.night.ReadNight.{ReadNight}
use Rattle.record_review.specs.Found.{AreFound}
use Rattle.record_review.specs.declared.read.BadRecord.{BadRecord}
use Rattle.record_review.specs.declared.read.RecordRead.{RecordRead}
use Rattle.record_review.specs.declared.read.RecordRead.TheVariants as read
use Rattle.record_review.specs.declared.read.RecordState.{RecordState}
use Rattle.record_review.specs.declared.read.RecordState.TheVariants as state

-- a record, its sum, and the files in its night's folder
pub record IsNightOf (folder bytes : List ℕ) (night : ReadNight) : Type 0 where
  pub record_is : IsRecordOf bytes night.record
  pub sum_is : night.sum ≡ encode_lower (sha256 bytes)
  pub found : AreFound folder night.found

-- the bytes are no record, for a cause that is in them
pub record AreRefused (bytes : List ℕ) : Type 0 where
  pub cause : RecordFault
  pub refused : IsReadFault bytes cause
  pub in_them : cause ≢ fault.Memory

abbrev pub IsBad : (state : RecordState) → Option (List ℕ) → Type 0
IsBad state.Unread bytes = bytes ≡ None
IsBad state.NoRecord None = ⊥
IsBad state.NoRecord (Some bytes) = AreRefused bytes

-- what was read of a night: its record, or why it has none
abbrev pub IsReadOf : (folder name : List ℕ) → (bytes : Option (List ℕ)) → RecordRead → Type 0
IsReadOf folder name None (read.Night night) = ⊥
IsReadOf folder name (Some bytes) (read.Night night) = IsNightOf folder bytes night
IsReadOf folder name bytes (read.Bad bad) = (bad.night ≡ name) × IsBad bad.state bytes

-- a night without a record
abbrev pub bad_read : (name : List ℕ) → RecordState → RecordRead
bad_read name state = read.Bad (record { night = name; state = state })

-- a night with this record
pub record IsNightRead (folder : List ℕ) (told : NightRecord) (bytes : List ℕ) (is : RecordRead) : Type 0 where
  pub night : ReadNight
  pub is_night : is ≡ read.Night night
  pub told_is : night.record ≡ told
  pub sum_is : night.sum ≡ encode_lower (sha256 bytes)
  pub found : AreFound folder night.found

-- a night of the folder `nights`
pub record IsRecordRead (nights : List ℕ) (mark : NightMark) (read : RecordRead) : Type 0 where
  pub file : FileValue
  pub at : file.path ≡ in_night nights mark.name (codes "night.toml")
  pub read_is : IsReadOf (path_in nights mark.name) mark.name file.bytes read

-- the nights whose records were read, and the others
abbrev pub night_in : RecordRead → Option ReadNight
night_in (read.Night night) = Some night
night_in (read.Bad bad) = None

abbrev pub bad_in : RecordRead → Option BadRecord
bad_in (read.Night night) = None
bad_in (read.Bad bad) = Some bad

-- a night whose record can't be read
abbrev pub is_unread_state : RecordState → Bool
is_unread_state state.Unread = true
is_unread_state state.NoRecord = false

abbrev pub is_unread : RecordRead → Bool
is_unread (read.Night night) = false
is_unread (read.Bad bad) = is_unread_state bad.state
