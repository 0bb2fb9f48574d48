-- What the lines of a text are read as (no public clause cites these).
use Rattle.std.specs.Prelude.{◌≡◌, ◌≢◌, ⊤, ℕ, Bool, true, false, List, [], ◌∷◌, ◌++◌, Option, codes, map, option_map, slice_index_or}
use denote.Ref.{Bor}
use Rattle.night_record.specs.Record.{CanBe, are_files, before_text, file_line, files_lines}
use Rattle.night_record.specs.Record.{is_before, number_line, record_lines, text_line, version_line}
use Rattle.night_record.specs.Refused.{lines_to}
use Rattle.night_record.specs.Values.{is_count, is_moment, is_name, is_status}
use Rattle.night_record.specs.declared.fault.Part.{Part}
use Rattle.night_record.specs.declared.fault.Part.TheVariants as part
use Rattle.night_record.specs.declared.fault.RecordFault.{RecordFault}
use Rattle.night_record.specs.declared.fault.RecordFault.TheVariants as fault
use Rattle.night_record.specs.declared.head.Head.{Head}
use Rattle.night_record.specs.declared.record.NightRecord.{NightRecord}
use Rattle.night_record.specs.declared.record.SummedFile.{SummedFile}

-- a part is wrong for a reason; out of memory needs none
abbrev pub IsWrongFor : Part → (reason : Type 0) → RecordFault → Type 0
IsWrongFor wrong reason fault.Memory = ⊤
IsWrongFor wrong reason fault.CutOff = ⊥
IsWrongFor wrong reason (fault.Wrong other) = (other ≡ wrong) × reason

-- line n, counted from 0
abbrev pub line : (lines : List (List ℕ)) → ℕ → List ℕ
line lines n = slice_index_or lines n []

abbrev pub before_of : Head → Option (List ℕ)
before_of head = option_map (λ (sum : Bor (List ℕ)). sum.now) head.before

-- the first eight lines are those of a record
pub record IsHead (lines : List (List ℕ)) (head : Head) : Type 0 where
  pub version : line lines 0 ≡ version_line
  pub number : line lines 1 ≡ number_line (codes "number") head.number
  pub name : line lines 2 ≡ text_line (codes "name") head.name.now
  pub moment : line lines 3 ≡ text_line (codes "moment") head.moment.now
  pub before : line lines 4 ≡ text_line (codes "before") (before_text (before_of head))
  pub status : line lines 5 ≡ number_line (codes "status") head.status
  pub release : line lines 6 ≡ text_line (codes "release") head.release.now
  pub clock : line lines 7 ≡ text_line (codes "clock") head.clock.now
  pub number_can : is_count head.number ≡ true
  pub name_can : is_name head.name.now ≡ true
  pub moment_can : is_moment head.moment.now ≡ true
  pub before_can : is_before (before_of head) ≡ true
  pub status_can : is_status head.status ≡ true
  pub release_can : is_name head.release.now ≡ true
  pub clock_can : is_moment head.clock.now ≡ true

-- the line isn't one that a record has there
abbrev pub IsNoNumber : (key line : List ℕ) → Type 0
IsNoNumber key line = (n : ℕ) → is_count n ≡ true → line ≢ number_line key n

abbrev pub IsNoStatus : (key line : List ℕ) → Type 0
IsNoStatus key line = (n : ℕ) → is_status n ≡ true → line ≢ number_line key n

abbrev pub IsNoName : (key line : List ℕ) → Type 0
IsNoName key line = (value : List ℕ) → is_name value ≡ true → line ≢ text_line key value

abbrev pub IsNoMoment : (key line : List ℕ) → Type 0
IsNoMoment key line = (value : List ℕ) → is_moment value ≡ true → line ≢ text_line key value

abbrev pub IsNoBefore : (key line : List ℕ) → Type 0
IsNoBefore key line = (value : Option (List ℕ)) → is_before value ≡ true → line ≢ text_line key (before_text value)

abbrev pub IsHeadWrong : Part → (lines : List (List ℕ)) → Type 0
IsHeadWrong part.Version lines = line lines 0 ≢ version_line
IsHeadWrong part.Number lines = IsNoNumber (codes "number") (line lines 1)
IsHeadWrong part.Name lines = IsNoName (codes "name") (line lines 2)
IsHeadWrong part.Moment lines = IsNoMoment (codes "moment") (line lines 3)
IsHeadWrong part.Before lines = IsNoBefore (codes "before") (line lines 4)
IsHeadWrong part.Status lines = IsNoStatus (codes "status") (line lines 5)
IsHeadWrong part.Release lines = IsNoName (codes "release") (line lines 6)
IsHeadWrong part.Clock lines = IsNoMoment (codes "clock") (line lines 7)
IsHeadWrong part.MadeOf lines = ⊥
IsHeadWrong part.Gave lines = ⊥

-- after the last part comes no line
abbrev pub AfterLines : Part → (rest : List (List ℕ)) → Type 0
AfterLines part.Gave rest = rest ≡ []
AfterLines _ rest = ⊤

-- lines begin as those of a record that can be, up to a part, this part among them
pub record BeginLines (last : Part) (lines : List (List ℕ)) : Type 0 where
  pub night : NightRecord
  pub rest : List (List ℕ)
  pub can_be : CanBe night
  pub lines_are : lines ≡ lines_to last night ++ rest
  pub after : AfterLines last rest

-- the parts before a part are right
abbrev pub AreLinesBegun : Part → (lines : List (List ℕ)) → Type 0
AreLinesBegun part.Version lines = ⊤
AreLinesBegun part.Number lines = BeginLines part.Version lines
AreLinesBegun part.Name lines = BeginLines part.Number lines
AreLinesBegun part.Moment lines = BeginLines part.Name lines
AreLinesBegun part.Before lines = BeginLines part.Moment lines
AreLinesBegun part.Status lines = BeginLines part.Before lines
AreLinesBegun part.Release lines = BeginLines part.Status lines
AreLinesBegun part.Clock lines = BeginLines part.Release lines
AreLinesBegun part.MadeOf lines = BeginLines part.Clock lines
AreLinesBegun part.Gave lines = BeginLines part.MadeOf lines

abbrev pub IsHeadFault : (lines : List (List ℕ)) → RecordFault → Type 0
IsHeadFault lines fault.Memory = ⊤
IsHeadFault lines fault.CutOff = ⊥
IsHeadFault lines (fault.Wrong wrong) = AreLinesBegun wrong lines × IsHeadWrong wrong lines

-- lines of files
pub record AreFilesOf (lines : List (List ℕ)) (files : List SummedFile) : Type 0 where
  pub lines_are : lines ≡ map file_line files
  pub can_be : are_files files ≡ true

abbrev pub IsNoFiles : (lines : List (List ℕ)) → Type 0
IsNoFiles lines = (files : List SummedFile) → AreFilesOf lines files → ⊥

-- a line that isn't empty
abbrev pub is_filled : List ℕ → Bool
is_filled [] = false
is_filled (b ∷ bs) = true

-- the lines after the first eight begin with the files that a night was made of, and an empty line
pub record IsMadeOf (lines : List (List ℕ)) (files : List SummedFile) (rest : List (List ℕ)) : Type 0 where
  pub lines_are : lines ≡ files_lines (codes "[made_of]") files ++ [] ∷ rest
  pub can_be : are_files files ≡ true

abbrev pub IsNoMadeOf : (lines : List (List ℕ)) → Type 0
IsNoMadeOf lines = (files : List SummedFile) (rest : List (List ℕ)) → IsMadeOf lines files rest → ⊥

-- the lines after these are the files that it gave
pub record IsGave (lines : List (List ℕ)) (files : List SummedFile) : Type 0 where
  pub lines_are : lines ≡ codes "[gave]" ∷ map file_line files
  pub can_be : are_files files ≡ true

abbrev pub IsNoGave : (lines : List (List ℕ)) → Type 0
IsNoGave lines = (files : List SummedFile) → IsGave lines files → ⊥

-- all lines after the first eight
pub record ArePartsOf (lines : List (List ℕ)) (made_of gave : List SummedFile) : Type 0 where
  pub lines_are : lines ≡ files_lines (codes "[made_of]") made_of ++ files_lines (codes "[gave]") gave
  pub made_of_can : are_files made_of ≡ true
  pub gave_can : are_files gave ≡ true

-- what the night was made of is wrong, or it is right and what the night gave is wrong
abbrev pub IsPartsWrong : Part → (lines : List (List ℕ)) → Type 0
IsPartsWrong part.MadeOf lines = IsNoMadeOf lines
IsPartsWrong part.Gave lines =
    ((files : List SummedFile) × (rest : List (List ℕ)) × IsMadeOf lines files rest)
    × ((made_of gave : List SummedFile) → ArePartsOf lines made_of gave → ⊥)
IsPartsWrong _ lines = ⊥

abbrev pub IsPartsFault : (lines : List (List ℕ)) → RecordFault → Type 0
IsPartsFault lines fault.Memory = ⊤
IsPartsFault lines fault.CutOff = ⊥
IsPartsFault lines (fault.Wrong wrong) = IsPartsWrong wrong lines

-- a record of its first lines and its files
abbrev pub joined : Head → (made_of gave : List SummedFile) → NightRecord
joined head made_of gave = record {
  number = head.number;
  name = head.name.now;
  moment = head.moment.now;
  before = before_of head;
  status = head.status;
  release = head.release.now;
  clock = head.clock.now;
  made_of = made_of;
  gave = gave;
}

abbrev pub IsLinesFault : (lines : List (List ℕ)) → RecordFault → Type 0
IsLinesFault lines fault.Memory = ⊤
IsLinesFault lines fault.CutOff = ⊥
IsLinesFault lines (fault.Wrong wrong) = AreLinesBegun wrong lines × (BeginLines wrong lines → ⊥)

-- lines are those of a record
pub record AreRecordLines (lines : List (List ℕ)) (night : NightRecord) : Type 0 where
  pub lines_are : lines ≡ record_lines night
  pub can_be : CanBe night
