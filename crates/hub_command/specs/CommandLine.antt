-- The command line (own), read as clap's definitions say: a command, the folder of a hub, and what the command takes besides.
use Rattle.std.specs.Prelude.{◌≡◌, ◌≢◌, ◌&&◌, ◌||◌, ◌==◌, ℕ, Bool, true, false, not, List, [], ◌∷◌, Option, Some, None, codes, is_none}
use Rattle.std.specs.Prelude.{if◌then◌else◌, length}
use Rattle.std.specs.Str.{bytes_eq}
use Rattle.clap.specs.Words.{App, Rule, Text, takes, with_rule}
use Rattle.moment.specs.Calendar.{is_moment}
use Rattle.system_io.specs.Words.{or_none}
use Rattle.night_command.specs.CommandLine.{piece_given, piece_rule, workers_given, workers_rule}
use Rattle.program_frame.specs.Arguments.{option_flag, option_free, option_repeated, program, value_in, values_in, word, words as places}
use Rattle.hub_folder.specs.Names.{is_night_name, is_path}

-- the files after the words, which not each command wants
abbrev pub file_rule : Rule
file_rule = record (places (codes "file")) { required = false }

-- with the words that commands take
abbrev pub words_app : App
words_app =
    with_rule (with_rule (with_rule (program (codes "nighthub_day")) (word (codes "command"))) (word (codes "hub"))) file_rule

-- the option that names a file which is asked for again, as often as there are such files
abbrev pub again_rule : Rule
again_rule = option_repeated (codes "again")

-- and the options that say of a night when it is, what it is called and which files are asked for again
abbrev pub with_night : App → App
with_night app = with_rule (with_rule (with_rule app (option_free (codes "at"))) (option_free (codes "name"))) again_rule

-- and all options: the last one is for a night of which nothing was sent
abbrev pub hub_app : App
hub_app = with_rule (with_rule (with_rule (with_night words_app) workers_rule) piece_rule) (option_flag (codes "not-sent"))

-- the first word is a command of a hub
abbrev pub is_command : Text → Bool
is_command word = bytes_eq word (codes "init") || (bytes_eq word (codes "run") || bytes_eq word (codes "give-up"))

abbrev pub is_of_hub : List Text → Bool
is_of_hub [] = false
is_of_hub (word ∷ words) = is_command word

-- the night that is to be run
pub record RunRequest : Type 0 where
  pub files : List Text
  pub again : List Text
  pub at : Text
  pub name : Option Text
  pub workers : ℕ
  pub piece : ℕ

-- what is to be done with a hub
pub data Request : Type 0 where
  init : (hub : Text) → Request
  run : (hub : Text) → RunRequest → Request
  give_up : (hub : Text) → (not_sent : Bool) → Request

abbrev pub is_name_or_none : Option Text → Bool
is_name_or_none None = true
is_name_or_none (Some name) = is_night_name name

-- `--not-sent` is given
abbrev pub is_given : Option Text → Bool
is_given None = false
is_given (Some value) = bytes_eq value (codes "true")

-- what a command is given besides the hub
pub record Rest : Type 0 where
  pub files : List Text
  pub again : List Text
  pub at : Option Text
  pub name : Option Text
  pub workers : Option Text
  pub piece : Option Text
  pub not_sent : Bool

abbrev pub are_none : List Text → Bool
are_none files = length files == 0

abbrev pub is_bare : Rest → Bool
is_bare rest =
    (are_none rest.files && are_none rest.again)
    && (is_none rest.at && (is_none rest.name && (is_none rest.workers && is_none rest.piece)))

-- a run takes files, at least one, some of which may be asked for again, and a moment that there is; its name, if it has one, is one that a
-- night can have
abbrev pub run_given : (hub : Text) → (files again : List Text) → (at name : Option Text) → (workers piece : Option ℕ) → Option Request
run_given hub files again None name workers piece = None
run_given hub files again (Some at) name None piece = None
run_given hub files again (Some at) name (Some workers) None = None
run_given hub files again (Some at) name (Some workers) (Some piece) =
    if not (are_none files && are_none again) && (is_moment at && is_name_or_none name)
    then Some (run hub (record { files = files; again = again; at = at; name = name; workers = workers; piece = piece })) else None

abbrev pub run_by : (hub : Text) → Rest → Option Request
run_by hub rest = run_given hub rest.files rest.again rest.at rest.name (workers_given rest.workers) (piece_given rest.piece)

-- the others take a hub alone; `give-up` takes `--not-sent`
abbrev pub bare_by : (command hub : Text) → (not_sent : Bool) → Option Request
bare_by command hub not_sent =
    if bytes_eq command (codes "give-up") then Some (give_up hub not_sent)
    else if bytes_eq command (codes "init") && not not_sent then Some (init hub) else None

abbrev pub request_by : (command hub : Text) → Rest → Option Request
request_by command hub rest =
    if not (is_path hub) then None
    else if bytes_eq command (codes "run") && not rest.not_sent then run_by hub rest
    else if not (is_bare rest) then None
    else bare_by command hub rest.not_sent

-- without a command or a hub they ask for nothing
abbrev pub request_given : (command hub : Option Text) → Rest → Option Request
request_given None hub rest = None
request_given (Some command) None rest = None
request_given (Some command) (Some hub) rest = request_by command hub rest

abbrev pub rest_of : (value : Text → Option Text) → (values : Text → Option (List Text)) → Rest
rest_of value values = record {
  files = or_none (values (codes "file"));
  again = or_none (values (codes "again"));
  at = value (codes "at");
  name = value (codes "name");
  workers = value (codes "workers");
  piece = value (codes "piece");
  not_sent = is_given (value (codes "not-sent"));
}

-- what the values of the arguments ask for
abbrev pub request_of : (value : Text → Option Text) → (values : Text → Option (List Text)) → Option Request
request_of value values = request_given (value (codes "command")) (value (codes "hub")) (rest_of value values)

-- what the arguments ask for
abbrev pub request_in : List Text → Option Request
request_in words = request_of (value_in hub_app words) (values_in hub_app words)

-- nothing is wrong with the arguments, and they ask for something
pub record IsCommandLine (words : List Text) : Type 0 where
  pub taken : takes hub_app words ≡ true
  pub asked : request_in words ≢ None
