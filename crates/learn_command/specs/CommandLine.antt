-- The command line (own), read as clap's definitions say: guides that are known, the sets that are asked for, and sample files.
use Rattle.std.specs.Prelude.{◌≡◌, ◌≢◌, List, [], map, Option, true, codes, option_map}
use Rattle.clap.specs.Words.{App, Text, takes, with_rule}
use Rattle.system_io.specs.Words.{or_none}
use Rattle.program_frame.specs.Arguments.{option_free, option_repeated, program, value_in, values_in, words}
use Rattle.program_frame.specs.Matching.{AsksForText}
use Rattle.learn_command.specs.declared.command.Asked.{Asked}
use Rattle.learn_command.specs.declared.command.Asked.TheVariants.{Learn, Show}
use Rattle.learn_command.specs.declared.command.Options.{Options}

abbrev pub learn_app : App
learn_app =
    with_rule (with_rule (with_rule (program (codes "nighthub_learn")) (option_repeated (codes "known"))) (option_free (codes "set")))
    (words (codes "file"))

-- these are the guides, the ST01 and the files, where a name has one value and a list of values
pub record AreOptions (value : Text → Option Text) (values : Text → Option (List Text)) (options : Options) : Type 0 where
  pub known : or_none (values (codes "known")) ≡ map (λ p. p.now) options.known.items
  pub set : value (codes "set") ≡ option_map (λ s. s.now) options.st01
  pub files : or_none (values (codes "file")) ≡ map (λ p. p.now) options.files.items
  pub some : map (λ p. p.now) options.files.items ≢ []

-- no file is named
abbrev pub NamesNone : (values : Text → Option (List Text)) → Type 0
NamesNone values = or_none (values (codes "file")) ≡ []

-- nothing is wrong with the arguments, and they name a file
pub record IsCommandLine (given : List Text) : Type 0 where
  pub taken : takes learn_app given ≡ true
  pub named : NamesNone (values_in learn_app given) → ⊥

-- what the arguments ask for
abbrev pub IsAsked : List Text → Asked → Type 0
IsAsked given (Learn options) = AreOptions (value_in learn_app given) (values_in learn_app given) options
IsAsked given (Show text) = AsksForText learn_app given

-- private: what clap found
abbrev pub IsGiven : (value : Text → Option Text) → (values : Text → Option (List Text)) → Asked → Type 0
IsGiven value values (Learn options) = AreOptions value values options
IsGiven value values (Show text) = ⊥
