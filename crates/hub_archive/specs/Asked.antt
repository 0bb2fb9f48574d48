-- Private. What was read of the command line.
use Rattle.std.specs.Prelude.{◌≡◌, List, Option, Some, option_map}
use Rattle.clap.specs.Words.{Text}
use Rattle.program_frame.specs.Matching.{AsksForText}
use Rattle.hub_archive.specs.CommandLine.{Request, archive_app, request_in}
use Rattle.hub_archive.specs.declared.command.Asked.{Asked}
use Rattle.hub_archive.specs.declared.command.Asked.TheVariants as asked
use Rattle.hub_archive.specs.declared.command.Options.{Options}

-- the request that options say
abbrev pub request_as : Options → Request
request_as options = record { hub = options.hub.now; keep = options.keep }

abbrev pub requested : Option Options → Option Request
requested options = option_map request_as options

abbrev pub IsRequest : Option Request → Asked → Type 0
IsRequest request (asked.Archive options) = request ≡ Some (request_as options)
IsRequest request (asked.Show text) = ⊥

-- what the arguments ask for
abbrev pub IsAsked : List Text → Asked → Type 0
IsAsked words (asked.Archive options) = request_in words ≡ Some (request_as options)
IsAsked words (asked.Show text) = AsksForText archive_app words
