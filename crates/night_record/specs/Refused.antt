-- Why there isn't a record, to be written or of a text (own): the first part that is wrong, in the order of the lines. Out of memory says
-- nothing of the record.
use Rattle.std.specs.Prelude.{◌≡◌, ◌<◌, ◌⊎◌, ⊤, ℕ, false, List, [], ◌∷◌, ◌++◌, codes, length, take}
use Rattle.night_record.specs.Lines.{AreLinesOf, IsUnended, lines_text}
use Rattle.night_record.specs.Record.{CanBe, IsRecordOf, are_files, files_lines, head_lines, is_before, record_lines}
use Rattle.night_record.specs.Values.{is_count, is_moment, is_name, is_status}
use Rattle.night_record.specs.declared.fault.Part.{Part}
use Rattle.night_record.specs.declared.fault.Part.TheVariants as part
use Rattle.night_record.specs.declared.fault.RecordFault.{RecordFault}
use Rattle.night_record.specs.declared.fault.RecordFault.TheVariants as fault
use Rattle.night_record.specs.declared.record.NightRecord.{NightRecord}

-- a part of a record can't be
abbrev pub IsBad : Part → NightRecord → Type 0
IsBad part.Version night = ⊥
IsBad part.Number night = is_count night.number ≡ false
IsBad part.Name night = is_name night.name ≡ false
IsBad part.Moment night = is_moment night.moment ≡ false
IsBad part.Before night = is_before night.before ≡ false
IsBad part.Status night = is_status night.status ≡ false
IsBad part.Release night = is_name night.release ≡ false
IsBad part.Clock night = is_moment night.clock ≡ false
IsBad part.MadeOf night = are_files night.made_of ≡ false
IsBad part.Gave night = are_files night.gave ≡ false

-- why a record isn't written
abbrev pub IsWriteFault : NightRecord → RecordFault → Type 0
IsWriteFault night fault.Memory = ⊤
IsWriteFault night fault.CutOff = ⊥
IsWriteFault night (fault.Wrong bad) = IsBad bad night

-- the lines of a record up to a part, this part among them; an empty line ends the files that the night was made of
abbrev pub lines_to : Part → NightRecord → List (List ℕ)
lines_to part.Version night = take 1 (head_lines night)
lines_to part.Number night = take 2 (head_lines night)
lines_to part.Name night = take 3 (head_lines night)
lines_to part.Moment night = take 4 (head_lines night)
lines_to part.Before night = take 5 (head_lines night)
lines_to part.Status night = take 6 (head_lines night)
lines_to part.Release night = take 7 (head_lines night)
lines_to part.Clock night = head_lines night
lines_to part.MadeOf night = head_lines night ++ (files_lines (codes "[made_of]") night.made_of ++ [] ∷ [])
lines_to part.Gave night = record_lines night

-- what comes after a part: after the last one nothing
abbrev pub MayFollow : Part → (rest : List ℕ) → Type 0
MayFollow part.Gave rest = rest ≡ []
MayFollow _ rest = ⊤

-- a text begins as the text of a record that can be, up to a part, this part among them
pub record Begins (last : Part) (bytes : List ℕ) : Type 0 where
  pub night : NightRecord
  pub rest : List ℕ
  pub can_be : CanBe night
  pub text : bytes ≡ lines_text (lines_to last night) ++ rest
  pub after : MayFollow last rest

-- a text is that of no record that can be
abbrev pub IsNoRecord : (bytes : List ℕ) → Type 0
IsNoRecord bytes = (night : NightRecord) → IsRecordOf bytes night → ⊥

-- the lines of a text are fewer than those that each record has
pub record IsShort (bytes : List ℕ) : Type 0 where
  pub lines : List (List ℕ)
  pub are : AreLinesOf bytes lines
  pub short : length lines < 12

-- a text that ends too early: after its last line is no line feed, or it has too few lines
abbrev pub IsCutOff : (bytes : List ℕ) → Type 0
IsCutOff bytes = (IsUnended bytes ⊎ IsShort bytes) × IsNoRecord bytes

-- the parts before a part are right
abbrev pub IsBegun : Part → (bytes : List ℕ) → Type 0
IsBegun part.Version bytes = ⊤
IsBegun part.Number bytes = Begins part.Version bytes
IsBegun part.Name bytes = Begins part.Number bytes
IsBegun part.Moment bytes = Begins part.Name bytes
IsBegun part.Before bytes = Begins part.Moment bytes
IsBegun part.Status bytes = Begins part.Before bytes
IsBegun part.Release bytes = Begins part.Status bytes
IsBegun part.Clock bytes = Begins part.Release bytes
IsBegun part.MadeOf bytes = Begins part.Clock bytes
IsBegun part.Gave bytes = Begins part.MadeOf bytes

-- why a text isn't read: a part is wrong, and those before it are right
abbrev pub IsReadFault : (bytes : List ℕ) → RecordFault → Type 0
IsReadFault bytes fault.Memory = ⊤
IsReadFault bytes fault.CutOff = IsCutOff bytes
IsReadFault bytes (fault.Wrong wrong) = IsBegun wrong bytes × (Begins wrong bytes → ⊥)
