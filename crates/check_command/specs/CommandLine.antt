-- The command line of the check (own), read as clap's definitions say: options that name files, one of which may be given again.
use Rattle.std.specs.Prelude.{◌≡◌, ◌&&◌, ◌==◌, Bool, List, [], length, map, not, Option, Some, None, true, false, codes, is_some}
use Rattle.std.specs.Prelude.{option_map}
use Rattle.std.specs.Str.{bytes_eq}
use Rattle.clap.specs.Words.{App, Text, takes, with_rule}
use Rattle.system_io.specs.Words.{or_none}
use Rattle.program_frame.specs.Arguments.{option_flag, option_free, option_repeated, program, value_in, values_in}
use Rattle.program_frame.specs.Matching.{AsksForText}
use Rattle.check_command.specs.declared.command.Asked.{Asked}
use Rattle.check_command.specs.declared.command.Asked.TheVariants.{Check, Show}
use Rattle.check_command.specs.declared.command.Options.{Options}

-- with the options that name files
abbrev pub files_app : App
files_app =
    with_rule (with_rule (with_rule (program (codes "nighthub_check")) (option_free (codes "setup"))) (option_repeated (codes "guide")))
    (option_free (codes "counters"))

abbrev pub check_app : App
check_app = with_rule files_app (option_flag (codes "all"))

-- no file is named
abbrev pub names_none : Options → Bool
names_none options = not (is_some options.setup) && (not (is_some options.counters) && (length options.guides.items == 0))

-- the value that an option without a value has where it is given
abbrev pub is_all : Option Text → Bool
is_all None = false
is_all (Some text) = bytes_eq text (codes "true")

-- these are the files, one or more, and whether all is said, where an option has one value and a list of values
pub record AreOptions (value : Text → Option Text) (values : Text → Option (List Text)) (options : Options) : Type 0 where
  pub setup : value (codes "setup") ≡ option_map (λ s. s.now) options.setup
  pub guides : or_none (values (codes "guide")) ≡ map (λ g. g.now) options.guides.items
  pub counters : value (codes "counters") ≡ option_map (λ c. c.now) options.counters
  pub all : is_all (value (codes "all")) ≡ options.all
  pub some : names_none options ≡ false

-- no option has a value
pub record AreNone (value : Text → Option Text) (values : Text → Option (List Text)) : Type 0 where
  pub setup : value (codes "setup") ≡ None
  pub guides : or_none (values (codes "guide")) ≡ []
  pub counters : value (codes "counters") ≡ None

-- nothing is wrong with the arguments, and they name a file
pub record IsCommandLine (words : List Text) : Type 0 where
  pub taken : takes check_app words ≡ true
  pub named : AreNone (value_in check_app words) (values_in check_app words) → ⊥

-- what the arguments ask for
abbrev pub IsAsked : List Text → Asked → Type 0
IsAsked words (Check options) = AreOptions (value_in check_app words) (values_in check_app words) options
IsAsked words (Show text) = AsksForText check_app words

-- private: what clap found
abbrev pub IsGiven : (value : Text → Option Text) → (values : Text → Option (List Text)) → Asked → Type 0
IsGiven value values (Check options) = AreOptions value values options
IsGiven value values (Show text) = ⊥
