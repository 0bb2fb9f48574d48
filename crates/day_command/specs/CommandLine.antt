-- The command line (own), read as clap's definitions say: a command, the folder of all nights, and what the command takes besides.
use Rattle.std.specs.Prelude.{◌≡◌, ◌≢◌, ◌⊎◌, ◌&&◌, Bool, true, false, not, List, [], ◌∷◌, Option, Some, None, codes, if◌then◌else◌}
use Rattle.std.specs.Str.{bytes_eq}
use Rattle.clap.specs.Words.{App, Rule, Text, new_rule, takes, with_rule}
use Rattle.clap.specs.declared.builder.action.ArgAction.TheVariants.{Set}
use Rattle.file_names.specs.Given.{is_marked}
use Rattle.program_frame.specs.Arguments.{option_flag, program, value_in, word}
use Rattle.program_frame.specs.Matching.{AsksForText}
use Rattle.sets_again.specs.declared.wanted.Wanted.{Wanted}
use Rattle.sets_again.specs.declared.wanted.Wanted.TheVariants as wanted
use Rattle.track_read.specs.declared.export.Form.{Form}
use Rattle.track_read.specs.declared.export.Form.TheVariants as form
use Rattle.day_command.specs.declared.command.Asked.{Asked}
use Rattle.day_command.specs.declared.command.Asked.TheVariants as asked

-- the text to find, or the night of a page, after the folder
abbrev pub text_rule : Rule
text_rule = record (new_rule (codes "text")) { value_names = 1; action = Some Set }

-- with the words that each command takes
abbrev pub words_app : App
words_app = with_rule (with_rule (program (codes "nighthub_day")) (word (codes "command"))) (word (codes "nights"))

abbrev pub day_app : App
day_app = with_rule (with_rule (with_rule words_app text_rule) (option_flag (codes "sheet"))) (option_flag (codes "rejected"))

-- the value that the arguments give a name
abbrev pub value_of : List Text → Text → Option Text
value_of words = value_in day_app words

-- what is done with the nights of a folder
pub data Request : Type 0 where
  check : (nights : Text) → Request
  find : (nights text : Text) → Request
  export : (nights : Text) → Form → Request
  page : (nights night : Text) → Request
  again : (nights night : Text) → Wanted → Request

-- a text that documents are searched for, or the name of a night: it isn't empty, and is UTF-8
abbrev pub is_text : Text → Bool
is_text [] = false
is_text (b ∷ bs) = not (is_marked (b ∷ bs))

-- an option is given
abbrev pub is_given : Option Text → Bool
is_given None = false
is_given (Some value) = bytes_eq value (codes "true")

-- how an export writes fields
abbrev pub form_of : (is_sheet : Bool) → Form
form_of is_sheet = if is_sheet then form.Sheet else form.Plain

-- which sets go in again
abbrev pub wanted_of : (is_rejected : Bool) → Wanted
wanted_of is_rejected = if is_rejected then wanted.Rejected else wanted.HeldForRoute

-- `find` takes a text, `page` and `again` a night, the others none; `export` takes `--sheet`, and `again` takes `--rejected`
abbrev pub request_by : (command nights : Text) → (text : Option Text) → (is_sheet is_rejected : Bool) → Option Request
request_by command nights None is_sheet is_rejected =
    if bytes_eq command (codes "export") && not is_rejected then Some (export nights (form_of is_sheet))
    else if bytes_eq command (codes "check") && (not is_sheet && not is_rejected) then Some (check nights) else None
request_by command nights (Some text) is_sheet is_rejected =
    if bytes_eq command (codes "again") && (is_text text && not is_sheet) then Some (again nights text (wanted_of is_rejected))
    else if bytes_eq command (codes "find") && (is_text text && (not is_sheet && not is_rejected)) then Some (find nights text)
    else if bytes_eq command (codes "page") && (is_text text && (not is_sheet && not is_rejected)) then Some (page nights text) else None

-- without a command or a folder they ask for nothing
abbrev pub request_given : (command nights text sheet rejected : Option Text) → Option Request
request_given None nights text sheet rejected = None
request_given (Some command) None text sheet rejected = None
request_given (Some command) (Some nights) text sheet rejected = request_by command nights text (is_given sheet) (is_given rejected)

-- what the values of the arguments ask for
abbrev pub request_of : (value : Text → Option Text) → Option Request
request_of value =
    request_given (value (codes "command")) (value (codes "nights")) (value (codes "text"))
    (value (codes "sheet")) (value (codes "rejected"))

-- nothing is wrong with the arguments, and they ask for something
pub record IsCommandLine (words : List Text) : Type 0 where
  pub taken : takes day_app words ≡ true
  pub asked : request_of (value_of words) ≢ None

-- private: a request as it was read
abbrev pub IsRequest : Option Request → Asked → Type 0
IsRequest request (asked.Check nights) = request ≡ Some (check nights.now)
IsRequest request (asked.Find nights text) = request ≡ Some (find nights.now text.now)
IsRequest request (asked.Export nights form) = request ≡ Some (export nights.now form)
IsRequest request (asked.Page nights night) = request ≡ Some (page nights.now night.now)
IsRequest request (asked.Again nights night which) = request ≡ Some (again nights.now night.now which)
IsRequest request (asked.Show text) = ⊥

abbrev pub IsRequested : Option Request → Option Asked → Type 0
IsRequested request None = request ≡ None
IsRequested request (Some asked) = IsRequest request asked

-- what the arguments ask for
abbrev pub IsAsked : List Text → Asked → Type 0
IsAsked words (asked.Check nights) = request_of (value_of words) ≡ Some (check nights.now)
IsAsked words (asked.Find nights text) = request_of (value_of words) ≡ Some (find nights.now text.now)
IsAsked words (asked.Export nights form) = request_of (value_of words) ≡ Some (export nights.now form)
IsAsked words (asked.Page nights night) = request_of (value_of words) ≡ Some (page nights.now night.now)
IsAsked words (asked.Again nights night which) = request_of (value_of words) ≡ Some (again nights.now night.now which)
IsAsked words (asked.Show text) = AsksForText day_app words
