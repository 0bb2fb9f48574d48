-- The program's results (own): what is printed of the guide file that the arguments name, and the status.
use Rattle.std.specs.Prelude.{ℕ, ◌≡◌, ◌⊎◌, List, ◌++◌, Option, None, Some, codes}
use Rattle.std.specs.Io.KnownBytes.{Appends}
use Rattle.clap.specs.Words.{Text}
use Rattle.file_names.specs.Shown.{shown}
use Rattle.guide_toml.specs.FileBytes.{IsGuideOf}
use Rattle.guide_names.specs.Names.{Words}
use Rattle.guide_page.specs.Page.{page_text}
use Rattle.guide_page.specs.declared.page.Answer.{Answer}
use Rattle.guide_tree.specs.Words.{GuideTree, guide_of}
use Rattle.guide_tree.specs.declared.rows.GuideRows.{GuideRows}
use Rattle.check_command.specs.Files.{path_of}
use Rattle.check_command.specs.SetupFiles.{IsGuideRefused}
use Rattle.check_command.specs.declared.files.Given.{Given}
use Rattle.check_command.specs.declared.judged.Judged.{Judged}
use Rattle.check_command.specs.declared.judged.Judged.TheVariants as judged
use Rattle.guide_samples.specs.Samples.{IsSample}
use Rattle.program_frame.specs.Matching.{AsksForText}
use Rattle.names_given.specs.Files.{AreRefused, AreWords}
use Rattle.page_command.specs.CommandLine.{IsGuide, names_given, page_app, value_of}
use Rattle.page_command.specs.Samples.{AreAnswers}
use Rattle.page_command.specs.declared.failure.Failure.{Failure}
use Rattle.page_command.specs.declared.failure.Failure.TheVariants as failure

-- the file that was read at a path writes a guide
pub record IsRead (path : List ℕ) (guide : GuideRows) : Type 0 where
  pub file : Given
  pub at : path_of file ≡ path
  pub writes : IsGuideOf file.bytes guide

-- the file that was read at a path, or couldn't be read, is refused in these words
pub record IsRefused (path text : List ℕ) : Type 0 where
  pub file : Given
  pub at : path_of file ≡ path
  pub refused : IsGuideRefused file.bytes text

-- what was read at a path
abbrev pub IsJudged : (path : List ℕ) → Judged GuideRows → Type 0
IsJudged path (judged.Taken guide) = IsRead path guide
IsJudged path (judged.Refused text) = IsRefused path text

-- the page of a guide, with words for it, a sample that meets it, and the answers to samples that break a rule
pub record IsPageOf (words : Words) (guide : GuideTree) (text : List ℕ) : Type 0 where
  pub sample : List ℕ
  pub answers : List Answer
  pub sample_is : IsSample guide sample
  pub answers_are : AreAnswers words guide answers
  pub text_is : text ≡ page_text words guide sample answers

-- the page of a guide, with the words of the names file at a path, if there is one
pub record IsNamedPage (names : Option (List ℕ)) (guide : GuideTree) (text : List ℕ) : Type 0 where
  pub words : Words
  pub are : AreWords names words
  pub page : IsPageOf words guide text

-- the page of the guide that was read at a path
pub record IsPageAt (path : List ℕ) (names : Option (List ℕ)) (text : List ℕ) : Type 0 where
  pub guide : GuideRows
  pub read : IsRead path guide
  pub page : IsNamedPage names (guide_of guide) text

-- such a page is what was printed
pub record IsPage (path : List ℕ) (names was is : Option (List ℕ)) : Type 0 where
  pub text : List ℕ
  pub page : IsPageAt path names text
  pub printed : Appends was is text

-- a text was shown that the arguments ask for
pub record IsShownText (words : List Text) (was is : Option (List ℕ)) : Type 0 where
  pub asked : AsksForText page_app words
  pub text : List ℕ
  pub printed : Appends was is text

-- the page of the guide that the arguments name was printed, or such a text
abbrev pub IsRun : (words : List Text) → (was is : Option (List ℕ)) → Type 0
IsRun words was is =
    ((path : List ℕ) × IsGuide (value_of words) path × IsPage path (names_given words) was is) ⊎ IsShownText words was is

-- the line of a guide that is refused
abbrev pub refused_line : (path text : List ℕ) → List ℕ
refused_line path text = codes "nighthub_page: " ++ (shown path ++ (codes ": " ++ (shown text ++ codes "\n")))

-- the guide at a path is refused, and this is the line
pub record IsRefusedBy (path line : List ℕ) : Type 0 where
  pub text : List ℕ
  pub refused : IsRefused path text
  pub said : line ≡ refused_line path text

-- the names file at a path is refused, and this is the line
pub record AreRefusedBy (path line : List ℕ) : Type 0 where
  pub text : List ℕ
  pub refused : AreRefused path text
  pub said : line ≡ refused_line path text

-- there is a names file, it is refused, and this is the line
abbrev pub IsNamesLine : (names : Option (List ℕ)) → (line : List ℕ) → Type 0
IsNamesLine None line = ⊥
IsNamesLine (Some path) line = AreRefusedBy path line

-- why no page is printed: memory was refused, the guide or the names file is, no sample was found, or a file can't be written
abbrev pub IsBefore : (path : List ℕ) → (names : Option (List ℕ)) → Failure → Type 0
IsBefore path names failure.NoSample = Unit {0}
IsBefore path names (failure.Guide line) = IsRefusedBy path line
IsBefore path names (failure.Names line) = IsNamesLine names line
IsBefore path names (failure.Output line) = Unit {0}
IsBefore path names failure.Memory = Unit {0}

-- private: such a failure after the guide was taken
abbrev pub IsUnnamed : (names : Option (List ℕ)) → Failure → Type 0
IsUnnamed names failure.NoSample = Unit {0}
IsUnnamed names (failure.Guide line) = ⊥
IsUnnamed names (failure.Names line) = IsNamesLine names line
IsUnnamed names (failure.Output line) = Unit {0}
IsUnnamed names failure.Memory = Unit {0}

-- private: such a failure after the names were taken, too
abbrev pub IsUnmade : Failure → Type 0
IsUnmade failure.NoSample = Unit {0}
IsUnmade (failure.Guide line) = ⊥
IsUnmade (failure.Names line) = ⊥
IsUnmade (failure.Output line) = Unit {0}
IsUnmade failure.Memory = Unit {0}

-- the guide at a path is refused, or the names file
abbrev pub IsRefusedFile : (path : List ℕ) → (names : Option (List ℕ)) → Type 0
IsRefusedFile path names = ((line : List ℕ) × IsRefusedBy path line) ⊎ ((line : List ℕ) × IsNamesLine names line)

-- the guide or the names file that the arguments name is refused
abbrev pub IsRefusal : (words : List Text) → Type 0
IsRefusal words = (path : List ℕ) × IsGuide (value_of words) path × IsRefusedFile path (names_given words)
