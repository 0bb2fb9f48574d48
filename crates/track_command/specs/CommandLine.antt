-- The command line (own), read as clap's definitions say: the options of nighthub, with a file for the table in place of the folder, and
-- one for each kind of set whose document's number is elsewhere.
use Rattle.std.specs.Prelude.{◌≡◌, ◌⊎◌, ℕ, Option, Some, true, false, List, codes, map}
use Rattle.clap.specs.Words.{App, Rule, Text, first_value, takes, with_rule}
use Rattle.clap.specs.declared.parser.matches.Found.{Found}
use Rattle.moment.specs.Moment.{IsMoment}
use Rattle.night_command.specs.CommandLine.{option_wanted, piece_given, piece_rule, with_night, workers_given, workers_rule}
use Rattle.system_io.specs.Words.{values_found}
use Rattle.program_frame.specs.Arguments.{option_repeated, program, value_in, values_in}
use Rattle.program_frame.specs.Matching.{AsksForText}
use Rattle.set_documents.specs.Documents.{DocumentValue}
use Rattle.set_documents.specs.Given.{documents_given}
use Rattle.track_command.specs.declared.command.Asked.{Asked}
use Rattle.track_command.specs.declared.command.Asked.TheVariants.{Run, Show}
use Rattle.track_command.specs.declared.command.Options.{Options}

-- the night
abbrev pub night_app : App
night_app = with_rule (with_night (program (codes "nighthub_track"))) (option_wanted (codes "track"))

-- which element of a set is shown as its document's number: once for each kind of set, or not at all
abbrev pub document_rule : Rule
document_rule = option_repeated (codes "document")

-- and how nighthub would share it among workers
abbrev pub track_app : App
track_app = with_rule (with_rule (with_rule night_app document_rule) workers_rule) piece_rule

-- the paths of the guides
abbrev pub guide_paths : Options → List Text
guide_paths options = map (λ g. g.now) options.guides.items

-- these are the options of a run, where an option has one value and a list of values
pub record AreOptions (value : Text → Option Text) (values : Text → Option (List Text)) (options : Options) : Type 0 where
  pub setup : value (codes "setup") ≡ Some options.setup.now
  pub guides : values (codes "guide") ≡ Some (guide_paths options)
  pub counters : value (codes "counters") ≡ Some options.counters.now
  pub at : value (codes "at") ≡ Some options.at
  pub input : value (codes "in") ≡ Some options.input.now
  pub output : value (codes "track") ≡ Some options.output.now
  pub documents : documents_given (values (codes "document")) ≡ Some options.documents.items
  pub workers : workers_given (value (codes "workers")) ≡ Some options.sharing.workers
  pub piece : piece_given (value (codes "piece")) ≡ Some options.sharing.piece

-- each option that is wanted has its value, the moment exists, and the numbers that are given can be taken
pub record AreGiven (value : Text → Option Text) (values : Text → Option (List Text)) : Type 0 where
  pub setup : Text
  pub setup_named : value (codes "setup") ≡ Some setup
  pub guides : List Text
  pub guides_named : values (codes "guide") ≡ Some guides
  pub counters : Text
  pub counters_named : value (codes "counters") ≡ Some counters
  pub at : Text
  pub at_named : value (codes "at") ≡ Some at
  pub moment : IsMoment at
  pub input : Text
  pub input_named : value (codes "in") ≡ Some input
  pub output : Text
  pub output_named : value (codes "track") ≡ Some output
  pub documents : List DocumentValue
  pub documents_named : documents_given (values (codes "document")) ≡ Some documents
  pub workers : ℕ
  pub workers_named : workers_given (value (codes "workers")) ≡ Some workers
  pub piece : ℕ
  pub piece_named : piece_given (value (codes "piece")) ≡ Some piece

-- the arguments give each option that is wanted, and nothing is wrong with them
pub record IsCommandLine (words : List Text) : Type 0 where
  pub taken : takes track_app words ≡ true
  pub given : AreGiven (value_in track_app words) (values_in track_app words)

-- the arguments name the files and the moment of a night
pub record NamesNight (words : List Text) : Type 0 where
  pub options : Options
  pub named : AreOptions (value_in track_app words) (values_in track_app words) options

-- what the arguments ask for
abbrev pub IsAsked : List Text → Asked → Type 0
IsAsked words (Run options) = AreOptions (value_in track_app words) (values_in track_app words) options
IsAsked words (Show text) = AsksForText track_app words

-- private: the same of what clap found
abbrev pub IsGiven : Found → Asked → Type 0
IsGiven found (Run options) = AreOptions (first_value found) (values_found found) options
IsGiven found (Show text) = ⊥
