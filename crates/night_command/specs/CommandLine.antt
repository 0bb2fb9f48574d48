-- The command line (own), read as clap's definitions say: options with one value each, of which those that name files and the moment are
-- wanted; one of them, for the guides, is given once for each guide.
use Rattle.std.specs.Prelude.{◌≡◌, ◌⊎◌, ◌≤◌, ℕ, Option, Some, None, true, false, List, codes, map, nat_le, ◌&&◌}
use Rattle.std.specs.Prelude.{if◌then◌else◌}
use Rattle.hub_kinds.specs.Words.{number_of}
use Rattle.clap.specs.Words.{App, Rule, Text, first_value, takes, with_rule}
use Rattle.clap.specs.declared.builder.value_parser.ValueParser.TheVariants.{Unsigned}
use Rattle.clap.specs.declared.parser.matches.Found.{Found}
use Rattle.moment.specs.Moment.{IsMoment}
use Rattle.system_io.specs.Words.{values_found}
use Rattle.program_frame.specs.Arguments.{option_free, option_repeated, program, value_in, values_in}
use Rattle.program_frame.specs.Matching.{AsksForText}
use Rattle.night_command.specs.declared.command.Asked.{Asked}
use Rattle.night_command.specs.declared.command.Asked.TheVariants.{Run, Show}
use Rattle.night_command.specs.declared.command.Options.{Options}
use Rattle.night_command.specs.declared.sharing.Sharing.{Sharing}

-- an option of this name, given once
abbrev pub option_wanted : Text → Rule
option_wanted name = record (option_free name) { required = true }

-- an option of this name, given once or more
abbrev pub options_wanted : Text → Rule
options_wanted name = record (option_repeated name) { required = true }

-- how many workers: 1 to 64
abbrev pub workers_rule : Rule
workers_rule = record (option_free (codes "workers")) { parser = Some (Unsigned 1 64) }

-- how many bytes a worker takes at a time: 1 to 4,294,967,295
abbrev pub piece_rule : Rule
piece_rule = record (option_free (codes "piece")) { parser = Some (Unsigned 1 4294967295) }

-- the options that name the setup
abbrev pub with_setup : App → App
with_setup app =
    with_rule (with_rule (with_rule app (option_wanted (codes "setup"))) (options_wanted (codes "guide")))
    (option_wanted (codes "counters"))

-- and those that name the moment and the input of a night
abbrev pub with_night : App → App
with_night app = with_rule (with_rule (with_setup app) (option_wanted (codes "at"))) (option_wanted (codes "in"))

-- the night
abbrev pub night_app : App
night_app = with_rule (with_night (program (codes "nighthub"))) (option_wanted (codes "out"))

-- and how it is shared among workers
abbrev pub hub_app : App
hub_app = with_rule (with_rule night_app workers_rule) piece_rule

-- a number from 1 up to the most
abbrev pub up_to_most : (most : ℕ) → Option ℕ → Option ℕ
up_to_most most None = None
up_to_most most (Some n) = if nat_le 1 n && nat_le n most then Some n else None

-- what an option says that is optional: a number of 1 to 10 digits, from 1 up to the most; another number where it is left out
abbrev pub number_given : (otherwise most : ℕ) → Option Text → Option ℕ
number_given otherwise most None = Some otherwise
number_given otherwise most (Some text) = up_to_most most (number_of 10 text)

-- how many workers share a night: 1 to 64, or 4
abbrev pub workers_given : Option Text → Option ℕ
workers_given text = number_given 4 64 text

-- how many bytes a piece has that a worker takes: 1 to 4,294,967,295, or 1,048,576
abbrev pub piece_given : Option Text → Option ℕ
piece_given text = number_given 1048576 4294967295 text

-- the paths of the guides
abbrev pub guide_paths : Options → List Text
guide_paths options = map (λ g. g.now) options.guides.items

-- these are the options of a run, where an option has one value and a list of values
pub record AreOptions (value : Text → Option Text) (values : Text → Option (List Text)) (options : Options) : Type 0 where
  pub setup : value (codes "setup") ≡ Some options.setup.now
  pub guides : values (codes "guide") ≡ Some (guide_paths options)
  pub counters : value (codes "counters") ≡ Some options.counters.now
  pub at : value (codes "at") ≡ Some options.at
  pub input : value (codes "in") ≡ Some options.input.now
  pub output : value (codes "out") ≡ Some options.output.now
  pub workers : workers_given (value (codes "workers")) ≡ Some options.sharing.workers
  pub piece : piece_given (value (codes "piece")) ≡ Some options.sharing.piece

-- each option that is wanted has its value, the moment exists, and the numbers that are given can be taken
pub record AreGiven (value : Text → Option Text) (values : Text → Option (List Text)) : Type 0 where
  pub setup : Text
  pub setup_named : value (codes "setup") ≡ Some setup
  pub guides : List Text
  pub guides_named : values (codes "guide") ≡ Some guides
  pub counters : Text
  pub counters_named : value (codes "counters") ≡ Some counters
  pub at : Text
  pub at_named : value (codes "at") ≡ Some at
  pub moment : IsMoment at
  pub input : Text
  pub input_named : value (codes "in") ≡ Some input
  pub output : Text
  pub output_named : value (codes "out") ≡ Some output
  pub workers : ℕ
  pub workers_named : workers_given (value (codes "workers")) ≡ Some workers
  pub piece : ℕ
  pub piece_named : piece_given (value (codes "piece")) ≡ Some piece

-- the arguments give each option that is wanted, and nothing is wrong with them
pub record IsCommandLine (words : List Text) : Type 0 where
  pub taken : takes hub_app words ≡ true
  pub given : AreGiven (value_in hub_app words) (values_in hub_app words)

-- the arguments name the files and the moment of a night
pub record NamesNight (words : List Text) : Type 0 where
  pub options : Options
  pub named : AreOptions (value_in hub_app words) (values_in hub_app words) options

-- what the arguments ask for
abbrev pub IsAsked : List Text → Asked → Type 0
IsAsked words (Run options) = AreOptions (value_in hub_app words) (values_in hub_app words) options
IsAsked words (Show text) = AsksForText hub_app words

-- private: the same of what clap found
abbrev pub IsGiven : Found → Asked → Type 0
IsGiven found (Run options) = AreOptions (first_value found) (values_found found) options
IsGiven found (Show text) = ⊥

-- how a night is shared by the values of its options; not at all where one of them can't be taken
abbrev pub IsShared : (value : Text → Option Text) → Option Sharing → Type 0
IsShared value None = (workers_given (value (codes "workers")) ≡ None) ⊎ (piece_given (value (codes "piece")) ≡ None)
IsShared value (Some sharing) =
    (workers_given (value (codes "workers")) ≡ Some sharing.workers) × (piece_given (value (codes "piece")) ≡ Some sharing.piece)

-- a night can be shared so
pub record CanShare (sharing : Sharing) : Type 0 where
  pub some : 1 ≤ sharing.workers
  pub few : sharing.workers ≤ 64
  pub piece : 1 ≤ sharing.piece
  pub short : sharing.piece ≤ 4294967295
