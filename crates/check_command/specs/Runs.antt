-- The check (own): what a run prints, and its status.
use Rattle.std.specs.Prelude.{ℕ, ◌≡◌, ◌⊎◌, Bool, List, Option, IfSome, is_some}
use Rattle.std.specs.Io.KnownBytes.{Appends}
use Rattle.clap.specs.Words.{Text}
use Rattle.program_frame.specs.Arguments.{value_in, values_in}
use Rattle.program_frame.specs.Matching.{AsksForText}
use Rattle.check_command.specs.CommandLine.{AreOptions, check_app}
use Rattle.check_command.specs.Files.{paths_in, paths_of}
use Rattle.check_command.specs.Further.{AreSaid, Sentences}
use Rattle.check_command.specs.Lines.{status_with, text_of}
use Rattle.check_command.specs.Tellings.{AreTold}
use Rattle.check_command.specs.declared.command.Options.{Options}
use Rattle.check_command.specs.declared.files.GivenFiles.{GivenFiles}
use Rattle.check_command.specs.declared.told.FileTold.{FileTold}

-- a text is what is printed of files with these paths, and this is its status: of each what is reported of it, and where all is asked for
-- what is said of each part of it
pub record IsReport (paths : List (List ℕ)) (all : Bool) (text : List ℕ) (status : ℕ) : Type 0 where
  pub given : GivenFiles
  pub files : paths_of given ≡ paths
  pub told : List FileTold
  pub is : AreTold given told
  pub said : Option (List Sentences)
  pub asked : is_some said ≡ all
  pub further : IfSome said (λ ss. AreSaid given ss)
  pub lines : text ≡ text_of told said
  pub own_status : status ≡ status_with told said

-- such a text is what was printed
pub record IsChecked (paths : List (List ℕ)) (all : Bool) (status : ℕ) (was is : Option (List ℕ)) : Type 0 where
  pub text : List ℕ
  pub report : IsReport paths all text status
  pub printed : Appends was is text

-- the files that the arguments name were checked, or a text was shown that they ask for
abbrev pub IsPrinted : (words : List Text) → (status : ℕ) → (was is : Option (List ℕ)) → Type 0
IsPrinted words status was is =
    ((options : Options) × AreOptions (value_in check_app words) (values_in check_app words) options × IsChecked
    (paths_in options) options.all status was is)
    ⊎ (AsksForText check_app words × (status ≡ 0))
