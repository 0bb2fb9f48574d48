-- What was read of the command line (no public clause but that of `read_words` cites these).
use Rattle.std.specs.Prelude.{◌≡◌, ◌⊎◌, ℕ, List, Option, Some, None, Bool, codes, map, option_map}
use Rattle.clap.specs.Words.{Text}
use Rattle.clap.specs.declared.parser.matches.Found.{Found}
use Rattle.system_io.specs.Words.{or_none, values_found}
use Rattle.night_command.specs.CommandLine.{piece_given, workers_given}
use Rattle.night_command.specs.declared.sharing.Sharing.{Sharing}
use Rattle.program_frame.specs.Matching.{AsksForText}
use Rattle.hub_command.specs.CommandLine.{Request, Rest, RunRequest, give_up, hub_app, init, request_in, run}
use Rattle.hub_command.specs.declared.command.Asked.{Asked}
use Rattle.hub_command.specs.declared.command.Asked.TheVariants as asked
use Rattle.hub_command.specs.declared.command.Given.{Given}
use Rattle.hub_command.specs.declared.command.Options.{Options}
use Rattle.hub_command.specs.declared.command.Paths.{Paths}
use denote.Ref.{Bor}

abbrev pub text_of : Option (Bor (List ℕ)) → Option Text
text_of text = option_map (λ (t : Bor (List ℕ)). t.now) text

-- the night that options say
abbrev pub run_in : Options → RunRequest
run_in options = record {
  files = map (λ f. f.now) options.files.items;
  again = map (λ f. f.now) options.again.items;
  at = options.at;
  name = text_of options.name;
  workers = options.sharing.workers;
  piece = options.sharing.piece;
}

-- how a night is shared, if the arguments say how it can be
abbrev pub AreShared : (workers piece : Option ℕ) → Option Sharing → Type 0
AreShared workers piece None = (workers ≡ None) ⊎ (piece ≡ None)
AreShared workers piece (Some sharing) = (workers ≡ Some sharing.workers) × (piece ≡ Some sharing.piece)

-- as the rest of the arguments say it
abbrev pub AreSharedBy : Rest → Option Sharing → Type 0
AreSharedBy rest sharing = AreShared (workers_given rest.workers) (piece_given rest.piece) sharing

-- the paths that clap found
pub record ArePaths (found : Found) (paths : Paths) : Type 0 where
  pub files : map (λ f. f.now) paths.files.items ≡ or_none (values_found found (codes "file"))
  pub again : map (λ f. f.now) paths.again.items ≡ or_none (values_found found (codes "again"))

-- what is given besides a hub, as the rest of the arguments say it
pub record IsGiven (rest : Rest) (given : Given) : Type 0 where
  pub files : map (λ f. f.now) given.paths.files.items ≡ rest.files
  pub again : map (λ f. f.now) given.paths.again.items ≡ rest.again
  pub at : text_of given.at ≡ rest.at
  pub name : text_of given.name ≡ rest.name
  pub sharing : AreSharedBy rest given.sharing

-- a request as it was read
abbrev pub IsRequest : Option Request → Asked → Type 0
IsRequest request (asked.Init hub) = request ≡ Some (init hub.now)
IsRequest request (asked.Run hub options) = request ≡ Some (run hub.now (run_in options))
IsRequest request (asked.GiveUp hub not_sent) = request ≡ Some (give_up hub.now not_sent)
IsRequest request (asked.Show text) = ⊥

abbrev pub IsRequested : Option Request → Option Asked → Type 0
IsRequested request None = request ≡ None
IsRequested request (Some asked) = IsRequest request asked

-- what the arguments ask for
abbrev pub IsAsked : List Text → Asked → Type 0
IsAsked words (asked.Init hub) = request_in words ≡ Some (init hub.now)
IsAsked words (asked.Run hub options) = request_in words ≡ Some (run hub.now (run_in options))
IsAsked words (asked.GiveUp hub not_sent) = request_in words ≡ Some (give_up hub.now not_sent)
IsAsked words (asked.Show text) = AsksForText hub_app words
