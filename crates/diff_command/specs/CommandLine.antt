-- The command line (own), read as clap's definitions say: the old guide file and the new one, and the folder for samples if there is one.
use Rattle.std.specs.Prelude.{◌≡◌, ◌⊎◌, List, Option, Some, None, true, codes, option_map}
use Rattle.clap.specs.Words.{App, Text, takes, with_rule}
use Rattle.program_frame.specs.Arguments.{option_free, program, value_in, word}
use Rattle.program_frame.specs.Matching.{AsksForText}
use Rattle.diff_command.specs.declared.command.Asked.{Asked}
use Rattle.diff_command.specs.declared.command.Asked.TheVariants.{Compare, Show}
use Rattle.diff_command.specs.declared.command.Paths.{Paths}

abbrev pub diff_app : App
diff_app =
    with_rule (with_rule (with_rule (program (codes "nighthub_diff")) (option_free (codes "samples"))) (word (codes "old")))
    (word (codes "new"))

-- the value that the arguments give a name
abbrev pub value_of : List Text → Text → Option Text
value_of words = value_in diff_app words

-- these are the paths of the old guide and of the new one
pub record AreGuides (value : Text → Option Text) (old new : Text) : Type 0 where
  pub was : value (codes "old") ≡ Some old
  pub is : value (codes "new") ≡ Some new

-- these are the paths of the guides, and of the folder for samples if there is one
pub record ArePaths (value : Text → Option Text) (p : Paths) : Type 0 where
  pub guides : AreGuides value p.old.now p.new.now
  pub folder : value (codes "samples") ≡ option_map (λ t. t.now) p.samples

-- a guide isn't named
abbrev pub NamesTooFew : (value : Text → Option Text) → Type 0
NamesTooFew value = (value (codes "old") ≡ None) ⊎ (value (codes "new") ≡ None)

-- nothing is wrong with the arguments, and they name both guides
pub record IsCommandLine (words : List Text) : Type 0 where
  pub taken : takes diff_app words ≡ true
  pub named : NamesTooFew (value_of words) → ⊥

-- what the arguments ask for
abbrev pub IsAsked : List Text → Asked → Type 0
IsAsked words (Compare paths) = ArePaths (value_of words) paths
IsAsked words (Show text) = AsksForText diff_app words

-- private: what clap found
abbrev pub IsGiven : (value : Text → Option Text) → Asked → Type 0
IsGiven value (Compare paths) = ArePaths value paths
IsGiven value (Show text) = ⊥
