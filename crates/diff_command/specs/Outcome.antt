-- The program's results (own): what is printed of the guide files that the arguments name, and the status.
use Rattle.std.specs.Prelude.{ℕ, ◌≡◌, ◌⊎◌, List, ◌++◌, [], Option, codes}
use Rattle.std.specs.Io.KnownBytes.{Appends}
use Rattle.clap.specs.Words.{Text}
use Rattle.file_names.specs.Shown.{shown}
use Rattle.guide_toml.specs.FileBytes.{IsGuideOf}
use Rattle.guide_tree.specs.declared.rows.GuideRows.{GuideRows}
use Rattle.check_command.specs.Files.{path_of}
use Rattle.check_command.specs.SetupFiles.{IsGuideRefused}
use Rattle.check_command.specs.declared.files.Given.{Given}
use Rattle.check_command.specs.declared.judged.Judged.{Judged}
use Rattle.check_command.specs.declared.judged.Judged.TheVariants as judged
use Rattle.diff_report.specs.Compared.{IsCompared}
use Rattle.program_frame.specs.Matching.{AsksForText}
use Rattle.diff_command.specs.CommandLine.{AreGuides, diff_app, value_of}
use Rattle.diff_command.specs.declared.failure.Failure.{Failure}
use Rattle.diff_command.specs.declared.failure.Failure.TheVariants as failure

-- the file that was read at a path writes a guide
pub record IsRead (path : List ℕ) (guide : GuideRows) : Type 0 where
  pub file : Given
  pub at : path_of file ≡ path
  pub writes : IsGuideOf file.bytes guide

-- the file that was read at a path, or couldn't be read, is refused in these words
pub record IsRefused (path text : List ℕ) : Type 0 where
  pub file : Given
  pub at : path_of file ≡ path
  pub refused : IsGuideRefused file.bytes text

-- what was read at a path
abbrev pub IsJudged : (path : List ℕ) → Judged GuideRows → Type 0
IsJudged path (judged.Taken guide) = IsRead path guide
IsJudged path (judged.Refused text) = IsRefused path text

-- both guides were read, and this is what is printed of them
pub record IsReport (old new text : List ℕ) (status : ℕ) : Type 0 where
  pub was : GuideRows
  pub is : GuideRows
  pub old_guide : IsRead old was
  pub new_guide : IsRead new is
  pub compared : IsCompared was is text status

-- such a text is what was printed
pub record IsDiff (old new : List ℕ) (status : ℕ) (was is : Option (List ℕ)) : Type 0 where
  pub text : List ℕ
  pub report : IsReport old new text status
  pub printed : Appends was is text

-- a text was shown that the arguments ask for
pub record IsShownText (words : List Text) (status : ℕ) (was is : Option (List ℕ)) : Type 0 where
  pub asked : AsksForText diff_app words
  pub text : List ℕ
  pub printed : Appends was is text
  pub own_status : status ≡ 0

-- the guides that the arguments name were compared, or such a text was shown
abbrev pub IsRun : (words : List Text) → (status : ℕ) → (was is : Option (List ℕ)) → Type 0
IsRun words status was is =
    ((old : List ℕ) × (new : List ℕ) × AreGuides (value_of words) old new × IsDiff old new status was is)
    ⊎ IsShownText words status was is

-- the line of a guide that is refused
abbrev pub refused_line : (path : List ℕ) → Judged GuideRows → List ℕ
refused_line path (judged.Taken guide) = []
refused_line path (judged.Refused text) = codes "nighthub_diff: " ++ (shown path ++ (codes ": " ++ (shown text ++ codes "\n")))

-- a guide is refused, or both are: these are the lines
pub record AreRefused (old new : List ℕ) (lines : List ℕ) : Type 0 where
  pub was : Judged GuideRows
  pub is : Judged GuideRows
  pub old_guide : IsJudged old was
  pub new_guide : IsJudged new is
  pub some : ((text : List ℕ) × IsRefused old text) ⊎ ((text : List ℕ) × IsRefused new text)
  pub said : lines ≡ refused_line old was ++ refused_line new is

-- why two guides aren't compared: memory was refused, or a guide is, or a sample can't be written
abbrev pub IsBefore : (old new : List ℕ) → Failure → Type 0
IsBefore old new (failure.Guide lines) = AreRefused old new lines
IsBefore old new (failure.Output line) = Unit {0}
IsBefore old new failure.Memory = Unit {0}

-- one of the guides that the arguments name is refused
abbrev pub IsRefusal : (words : List Text) → Type 0
IsRefusal words =
    (old : List ℕ) × (new : List ℕ) × AreGuides (value_of words) old new × ((lines : List ℕ) × AreRefused old new lines)
