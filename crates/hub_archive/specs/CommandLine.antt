-- The command line (own), read as clap's definitions say: the word `archive`, the folder of a hub, and how many nights are left.
use Rattle.std.specs.Prelude.{◌≡◌, ◌≢◌, ◌&&◌, ℕ, Bool, true, false, List, [], ◌∷◌, Option, Some, None, codes, if◌then◌else◌, nat_le}
use Rattle.std.specs.Str.{bytes_eq}
use Rattle.clap.specs.Words.{App, Text, takes, with_rule}
use Rattle.hub_kinds.specs.Numbers.{is_number, value_of}
use Rattle.program_frame.specs.Arguments.{option_free, program, value_in, word}
use Rattle.hub_folder.specs.Names.{is_path}

-- the words by their places, and the option
abbrev pub archive_app : App
archive_app =
    with_rule (with_rule (with_rule (program (codes "nighthub_day")) (word (codes "command"))) (word (codes "hub")))
    (option_free (codes "keep"))

-- the word of this command
abbrev pub is_archive : Text → Bool
is_archive word = bytes_eq word (codes "archive")

-- the first word is `archive`
abbrev pub begins_archive : List Text → Bool
begins_archive [] = false
begins_archive (word ∷ words) = is_archive word

-- nights that are to be archived
pub record Request : Type 0 where
  pub hub : Text
  pub keep : ℕ

-- a number from 1 to 999,999
abbrev pub count_in : Text → Option ℕ
count_in text =
    if is_number 6 text && (nat_le 1 (value_of text) && nat_le (value_of text) 999999) then Some (value_of text) else None

-- the folder is a path, and the number can be taken
abbrev pub request_with : (command hub : Text) → (keep : Option ℕ) → Option Request
request_with command hub None = None
request_with command hub (Some keep) =
    if is_archive command && is_path hub then Some (record { hub = hub; keep = keep }) else None

abbrev pub request_by : (command hub : Text) → (keep : Option Text) → Option Request
request_by command hub None = None
request_by command hub (Some keep) = request_with command hub (count_in keep)

-- without a command or a folder they ask for nothing
abbrev pub request_given : (command hub keep : Option Text) → Option Request
request_given None hub keep = None
request_given (Some command) None keep = None
request_given (Some command) (Some hub) keep = request_by command hub keep

-- what the values of the arguments ask for
abbrev pub request_of : (value : Text → Option Text) → Option Request
request_of value = request_given (value (codes "command")) (value (codes "hub")) (value (codes "keep"))

-- what the arguments ask for
abbrev pub request_in : List Text → Option Request
request_in words = request_of (value_in archive_app words)

-- nothing is wrong with the arguments, and they ask for something
pub record IsCommandLine (words : List Text) : Type 0 where
  pub taken : takes archive_app words ≡ true
  pub asked : request_in words ≢ None
