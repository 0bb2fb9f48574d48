-- The command line (own), read as clap's definitions say: the files of acknowledgments, one or more, and a names file if there is one.
use Rattle.std.specs.Prelude.{◌≡◌, ◌≢◌, ℕ, Option, true, codes, List, [], map, option_map}
use Rattle.clap.specs.Words.{App, Text, takes, with_rule}
use Rattle.system_io.specs.Words.{or_none}
use Rattle.program_frame.specs.Arguments.{option_free, program, value_in, values_in, words}
use Rattle.program_frame.specs.Matching.{AsksForText}
use Rattle.explain_command.specs.declared.command.Asked.{Asked}
use Rattle.explain_command.specs.declared.command.Paths.{Paths}
use Rattle.explain_command.specs.declared.command.Asked.TheVariants.{Explain, Show}

abbrev pub explain_app : App
explain_app = with_rule (with_rule (program (codes "nighthub_explain")) (option_free (codes "names"))) (words (codes "file"))

-- the values that the arguments give a name, in their order
abbrev pub values_of : List Text → Text → Option (List Text)
values_of given = values_in explain_app given

-- the path of the names file, if the arguments name one
abbrev pub names_given : List Text → Option Text
names_given given = value_in explain_app given (codes "names")

-- these are the files, where a name has a list of values
pub record AreFiles (values : Text → Option (List Text)) (paths : List (List ℕ)) : Type 0 where
  pub given : or_none (values (codes "file")) ≡ paths
  pub some : paths ≢ []

-- the arguments name these files, in their order
abbrev pub NamesFiles : List Text → (paths : List (List ℕ)) → Type 0
NamesFiles given paths = AreFiles (values_of given) paths

-- no file is named
abbrev pub NamesNone : (values : Text → Option (List Text)) → Type 0
NamesNone values = or_none (values (codes "file")) ≡ []

-- nothing is wrong with the arguments, and they name a file
pub record IsCommandLine (given : List Text) : Type 0 where
  pub taken : takes explain_app given ≡ true
  pub named : NamesNone (values_of given) → ⊥

abbrev pub paths_in : Paths → List (List ℕ)
paths_in p = map (λ f. f.now) p.files.items

abbrev pub names_in : Paths → Option (List ℕ)
names_in p = option_map (λ n. n.now) p.names

-- what the arguments ask for
abbrev pub IsAsked : List Text → Asked → Type 0
IsAsked given (Explain paths) = NamesFiles given (paths_in paths) × (names_given given ≡ names_in paths)
IsAsked given (Show text) = AsksForText explain_app given

-- the same of what clap found (no public clause cites it)
abbrev pub IsGiven : (values : Text → Option (List Text)) → (first : Text → Option Text) → Asked → Type 0
IsGiven values first (Explain paths) = AreFiles values (paths_in paths) × (first (codes "names") ≡ names_in paths)
IsGiven values first (Show text) = ⊥
