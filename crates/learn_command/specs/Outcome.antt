-- The program's results (own): what is printed of the sample files that the arguments name, and the status.
use Rattle.std.specs.Prelude.{ℕ, ◌≡◌, ◌⊎◌, List, [], ◌∷◌, map, Option, Some, IsSomeAnd, option_and_then, option_map}
use Rattle.std.specs.List.{All, Any}
use Rattle.std.specs.Io.KnownBytes.{Appends}
use Rattle.clap.specs.Words.{Text}
use Rattle.guide_tree.specs.Tree.{GuideTree}
use Rattle.night_definition.specs.GuideFile.{guide_of_table}
use Rattle.night_definition.specs.Program.{table_in}
use Rattle.learn_judge.specs.Samples.{HasSet, TakesText}
use Rattle.check_command.specs.Files.{path_of}
use Rattle.check_command.specs.SetupFiles.{IsGuideRefused}
use Rattle.check_command.specs.declared.files.Given.{Given}
use Rattle.program_frame.specs.Arguments.{value_in, values_in}
use Rattle.program_frame.specs.Matching.{AsksForText}
use Rattle.learn_command.specs.CommandLine.{AreOptions, learn_app}
use Rattle.learn_command.specs.declared.command.Options.{Options}
use Rattle.learn_command.specs.declared.failure.Failure.{Failure}
use Rattle.learn_command.specs.declared.failure.Failure.TheVariants as failure

-- the guide that a text describes, if it describes one
abbrev pub guide_in : (text : List ℕ) → Option GuideTree
guide_in text = option_and_then guide_of_table (table_in text)

-- the bytes of a file were read, and the guide takes each set in them that is asked for
abbrev pub IsTakenFile : GuideTree → (st01 : Option (List ℕ)) → Given → Type 0
IsTakenFile guide st01 file = IsSomeAnd file.bytes (TakesText guide st01)

-- a text describes a guide that takes each of some files
pub record TakesFiles (files : List Given) (st01 : Option (List ℕ)) (text : List ℕ) : Type 0 where
  pub guide : GuideTree
  pub described : guide_in text ≡ Some guide
  pub takes : All (IsTakenFile guide st01) files

-- the bytes of a file were read, and a set in them is asked for
abbrev pub HasSetIn : (st01 : Option (List ℕ)) → Given → Type 0
HasSetIn st01 file = IsSomeAnd file.bytes (HasSet st01)

-- files were read at these paths, in one of which a set is asked for, and a text describes a guide that takes each
pub record IsLearned (paths : List (List ℕ)) (st01 : Option (List ℕ)) (text : List ℕ) : Type 0 where
  pub files : List Given
  pub at : map path_of files ≡ paths
  pub some : Any (HasSetIn st01) files
  pub takes : TakesFiles files st01 text

-- such a text of the files of some options is what was printed
pub record IsPrinted (options : Options) (was is : Option (List ℕ)) : Type 0 where
  pub text : List ℕ
  pub learned : IsLearned (map (λ p. p.now) options.files.items) (option_map (λ s. s.now) options.st01) text
  pub printed : Appends was is text

-- a text was shown that the arguments ask for
pub record IsShownText (words : List Text) (was is : Option (List ℕ)) : Type 0 where
  pub asked : AsksForText learn_app words
  pub text : List ℕ
  pub printed : Appends was is text

-- a guide for the files that the arguments name was printed, or such a text
abbrev pub IsRun : (words : List Text) → (was is : Option (List ℕ)) → Type 0
IsRun words was is =
    ((options : Options) × AreOptions (value_in learn_app words) (values_in learn_app words) options × IsPrinted options was is)
    ⊎ IsShownText words was is

-- the file that was read at a path, or couldn't be read, is refused as a guide
pub record IsRefused (path : List ℕ) : Type 0 where
  pub file : Given
  pub at : path_of file ≡ path
  pub text : List ℕ
  pub refused : IsGuideRefused file.bytes text

-- some guide of these paths is refused
abbrev pub IsSomeRefused : (paths : List (List ℕ)) → Type 0
IsSomeRefused [] = ⊥
IsSomeRefused (path ∷ paths) = IsRefused path ⊎ IsSomeRefused paths

-- private: such a failure once the guides that are known were read
abbrev pub IsUnlearned : Failure → Type 0
IsUnlearned (failure.NoGuide line) = Unit {0}
IsUnlearned (failure.Known line) = ⊥
IsUnlearned (failure.Sample line) = Unit {0}
IsUnlearned failure.Memory = Unit {0}

-- why no guide is learned: a guide that is said to be known is refused only if one of them is
abbrev pub IsBefore : (known : List (List ℕ)) → Failure → Type 0
IsBefore known (failure.NoGuide line) = Unit {0}
IsBefore known (failure.Known line) = IsSomeRefused known
IsBefore known (failure.Sample line) = Unit {0}
IsBefore known failure.Memory = Unit {0}

-- a guide that the arguments say is known is refused
abbrev pub IsRefusal : (words : List Text) → Type 0
IsRefusal words =
    (options : Options) × AreOptions (value_in learn_app words) (values_in learn_app words) options
    × IsSomeRefused (map (λ p. p.now) options.known.items)
