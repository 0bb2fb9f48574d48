-- The command line (own), read as clap's definitions say: the guide file, the names file and the folder for samples if there are any.
use Rattle.std.specs.Prelude.{◌≡◌, List, Option, Some, None, true, codes, option_map}
use Rattle.clap.specs.Words.{App, Text, takes, with_rule}
use Rattle.program_frame.specs.Arguments.{option_free, program, value_in, word}
use Rattle.program_frame.specs.Matching.{AsksForText}
use Rattle.page_command.specs.declared.command.Asked.{Asked}
use Rattle.page_command.specs.declared.command.Paths.{Paths}
use Rattle.page_command.specs.declared.command.Asked.TheVariants.{Page, Show}

abbrev pub page_app : App
page_app =
    with_rule (with_rule (with_rule (program (codes "nighthub_page")) (option_free (codes "names"))) (option_free (codes "samples")))
    (word (codes "guide"))

-- the value that the arguments give a name
abbrev pub value_of : List Text → Text → Option Text
value_of words = value_in page_app words

-- this is the path of the guide
abbrev pub IsGuide : (value : Text → Option Text) → Text → Type 0
IsGuide value path = value (codes "guide") ≡ Some path

-- this is the folder for samples, if there is one
abbrev pub IsFolder : (value : Text → Option Text) → Option Text → Type 0
IsFolder value folder = value (codes "samples") ≡ folder

-- the path of the names file, if the arguments name one
abbrev pub names_given : List Text → Option Text
names_given words = value_of words (codes "names")

-- this is the path of the names file, if there is one
abbrev pub IsNames : (value : Text → Option Text) → Option Text → Type 0
IsNames value names = value (codes "names") ≡ names

-- these are the paths that are given
abbrev pub ArePaths : (value : Text → Option Text) → Paths → Type 0
ArePaths value p =
    IsGuide value p.guide.now × IsNames value (option_map (λ t. t.now) p.names) × IsFolder value (option_map (λ t. t.now) p.samples)

-- private: the path of the names file
abbrev pub names_of : Paths → Option Text
names_of p = option_map (λ t. t.now) p.names

-- no guide is named
abbrev pub NamesNone : (value : Text → Option Text) → Type 0
NamesNone value = value (codes "guide") ≡ None

-- nothing is wrong with the arguments, and they name a guide
pub record IsCommandLine (words : List Text) : Type 0 where
  pub taken : takes page_app words ≡ true
  pub named : NamesNone (value_of words) → ⊥

-- what the arguments ask for
abbrev pub IsAsked : List Text → Asked → Type 0
IsAsked words (Page paths) = ArePaths (value_of words) paths
IsAsked words (Show text) = AsksForText page_app words

-- private: what clap found
abbrev pub IsGiven : (value : Text → Option Text) → Asked → Type 0
IsGiven value (Page paths) = ArePaths value paths
IsGiven value (Show text) = ⊥
