-- The command line (own), read as clap's definitions say: the word `adopt`, the folder of a hub, the folder of old nights, and how the work
-- of a night is shared.
use Rattle.std.specs.Prelude.{◌≡◌, ◌≢◌, ◌&&◌, ℕ, Bool, true, false, List, [], ◌∷◌, Option, Some, None, codes, if◌then◌else◌}
use Rattle.std.specs.Str.{bytes_eq}
use Rattle.clap.specs.Words.{App, Text, takes, with_rule}
use Rattle.night_command.specs.CommandLine.{piece_given, piece_rule, workers_given, workers_rule}
use Rattle.program_frame.specs.Arguments.{program, value_in, word}
use Rattle.hub_folder.specs.Names.{is_path}

-- the words by their places
abbrev pub words_app : App
words_app =
    with_rule (with_rule (with_rule (program (codes "nighthub_day")) (word (codes "command"))) (word (codes "hub"))) (word (codes "nights"))

-- and how the work is shared
abbrev pub adopt_app : App
adopt_app = with_rule (with_rule words_app workers_rule) piece_rule

-- the word of this command
abbrev pub is_adopt : Text → Bool
is_adopt word = bytes_eq word (codes "adopt")

-- the first word is `adopt`
abbrev pub begins_adopt : List Text → Bool
begins_adopt [] = false
begins_adopt (word ∷ words) = is_adopt word

-- old nights that are to become nights of a hub
pub record Request : Type 0 where
  pub hub : Text
  pub nights : Text
  pub workers : ℕ
  pub piece : ℕ

-- both folders are paths, and the numbers can be taken
abbrev pub request_by : (command hub nights : Text) → (workers piece : Option ℕ) → Option Request
request_by command hub nights None piece = None
request_by command hub nights (Some workers) None = None
request_by command hub nights (Some workers) (Some piece) =
    if is_adopt command && (is_path hub && is_path nights)
    then Some (record { hub = hub; nights = nights; workers = workers; piece = piece }) else None

-- without a command or a folder they ask for nothing
abbrev pub request_given : (command hub nights : Option Text) → (workers piece : Option ℕ) → Option Request
request_given None hub nights workers piece = None
request_given (Some command) None nights workers piece = None
request_given (Some command) (Some hub) None workers piece = None
request_given (Some command) (Some hub) (Some nights) workers piece = request_by command hub nights workers piece

-- what the values of the arguments ask for
abbrev pub request_of : (value : Text → Option Text) → Option Request
request_of value =
    request_given (value (codes "command")) (value (codes "hub")) (value (codes "nights")) (workers_given (value (codes "workers")))
    (piece_given (value (codes "piece")))

-- what the arguments ask for
abbrev pub request_in : List Text → Option Request
request_in words = request_of (value_in adopt_app words)

-- nothing is wrong with the arguments, and they ask for something
pub record IsCommandLine (words : List Text) : Type 0 where
  pub taken : takes adopt_app words ≡ true
  pub asked : request_in words ≢ None
