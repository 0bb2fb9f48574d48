-- The command line of gathering (own), read as clap's definitions say: the file that is made, and the files that are gathered.
use Rattle.std.specs.Prelude.{◌≡◌, List, map, Option, Some, None, true, codes}
use Rattle.clap.specs.Words.{App, Text, takes, with_rule}
use Rattle.system_io.specs.Words.{or_none}
use Rattle.program_frame.specs.Arguments.{program, value_in, values_in, word, words}
use Rattle.program_frame.specs.Matching.{AsksForText}
use Rattle.gather_command.specs.declared.command.Asked.{Asked}
use Rattle.gather_command.specs.declared.command.Asked.TheVariants.{Gather, Show}
use Rattle.gather_command.specs.declared.command.Job.{Job}

-- the file that is made, and the files after it
abbrev pub gather_app : App
gather_app = with_rule (with_rule (program (codes "nighthub_gather")) (word (codes "out"))) (words (codes "file"))

-- these are the files, where a name has one value and a list of values
pub record IsJob (value : Text → Option Text) (values : Text → Option (List Text)) (job : Job) : Type 0 where
  pub out : value (codes "out") ≡ Some job.out.now
  pub files : or_none (values (codes "file")) ≡ map (λ f. f.now) job.files.items

-- no file to make is named
abbrev pub NamesNone : (value : Text → Option Text) → Type 0
NamesNone value = value (codes "out") ≡ None

-- nothing is wrong with the arguments, and they name a file to make
pub record IsCommandLine (given : List Text) : Type 0 where
  pub taken : takes gather_app given ≡ true
  pub named : NamesNone (value_in gather_app given) → ⊥

-- what the arguments ask for
abbrev pub IsAsked : List Text → Asked → Type 0
IsAsked given (Gather job) = IsJob (value_in gather_app given) (values_in gather_app given) job
IsAsked given (Show text) = AsksForText gather_app given

-- private: what clap found
abbrev pub IsGiven : (value : Text → Option Text) → (values : Text → Option (List Text)) → Asked → Type 0
IsGiven value values (Gather job) = IsJob value values job
IsGiven value values (Show text) = ⊥
