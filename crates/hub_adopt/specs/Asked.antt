-- Private. What was read of the command line.
use Rattle.std.specs.Prelude.{◌≡◌, ◌⊎◌, ℕ, List, Option, None, Some, option_map}
use Rattle.clap.specs.Words.{Text}
use Rattle.night_command.specs.declared.sharing.Sharing.{Sharing}
use Rattle.program_frame.specs.Matching.{AsksForText}
use Rattle.hub_adopt.specs.CommandLine.{Request, adopt_app, request_in}
use Rattle.hub_adopt.specs.declared.command.Asked.{Asked}
use Rattle.hub_adopt.specs.declared.command.Asked.TheVariants as asked
use Rattle.hub_adopt.specs.declared.command.Options.{Options}

-- the request that options say
abbrev pub request_as : Options → Request
request_as options = record {
  hub = options.hub.now;
  nights = options.nights.now;
  workers = options.sharing.workers;
  piece = options.sharing.piece;
}

abbrev pub requested : Option Options → Option Request
requested options = option_map request_as options

abbrev pub IsRequest : Option Request → Asked → Type 0
IsRequest request (asked.Adopt options) = request ≡ Some (request_as options)
IsRequest request (asked.Show text) = ⊥

-- what the arguments ask for
abbrev pub IsAsked : List Text → Asked → Type 0
IsAsked words (asked.Adopt options) = request_in words ≡ Some (request_as options)
IsAsked words (asked.Show text) = AsksForText adopt_app words

-- how a night is shared by numbers, if it can be
abbrev pub AreShared : (workers piece : Option ℕ) → Option Sharing → Type 0
AreShared workers piece None = (workers ≡ None) ⊎ (piece ≡ None)
AreShared workers piece (Some sharing) = (workers ≡ Some sharing.workers) × (piece ≡ Some sharing.piece)
