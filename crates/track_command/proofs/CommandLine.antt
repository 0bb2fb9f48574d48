-- What clap found in the arguments is what the definitions say of them.
use Rattle.std.proofs.Common.{◌≡◌, ◌∙◌, List, true, codes, refl, sym, ap}
use Rattle.clap.specs.Words.{HasMatchesOf, Text, first_value, found_of, is_simple, is_simple_and_free}
use Rattle.clap.specs.declared.parser.matches.ArgMatches.{ArgMatches}
use Rattle.clap.proofs.OnLiterals.{clap_on_literals}
use Rattle.system_io.specs.Words.{values_found}
use Rattle.system_io.proofs.ForAbove.{all_found, found}
use Rattle.program_frame.specs.Arguments.{value_in, values_in}
use Rattle.night_command.specs.CommandLine.{piece_given, workers_given}
use Rattle.set_documents.specs.Given.{documents_given}
use Rattle.track_command.specs.CommandLine.{AreGiven, AreOptions, IsAsked, IsGiven, track_app}
use Rattle.track_command.specs.declared.command.Asked.{Asked}
use Rattle.track_command.specs.declared.command.Asked.TheVariants.{Run, Show}
use Rattle.track_command.specs.declared.command.Options.{Options}

simple : is_simple track_app ≡ true
unfolding clap_on_literals
simple = refl

pub free : is_simple_and_free track_app ≡ true
unfolding clap_on_literals
free = refl

options : (words : List Text) (m : ArgMatches) (o : Options) → HasMatchesOf track_app words m
    → AreOptions (first_value (found_of m)) (values_found (found_of m)) o
    → AreOptions (value_in track_app words) (values_in track_app words) o
options words m o has given = record {
  setup = sym (found track_app simple words m (codes "setup") has) ∙ given.setup;
  guides = sym (all_found track_app simple words m (codes "guide") has) ∙ given.guides;
  counters = sym (found track_app simple words m (codes "counters") has) ∙ given.counters;
  at = sym (found track_app simple words m (codes "at") has) ∙ given.at;
  input = sym (found track_app simple words m (codes "in") has) ∙ given.input;
  output = sym (found track_app simple words m (codes "track") has) ∙ given.output;
  documents = sym (ap documents_given (all_found track_app simple words m (codes "document") has)) ∙ given.documents;
  workers = sym (ap workers_given (found track_app simple words m (codes "workers") has)) ∙ given.workers;
  piece = sym (ap piece_given (found track_app simple words m (codes "piece") has)) ∙ given.piece;
}

pub asked : (words : List Text) (m : ArgMatches) (asked : Asked) → HasMatchesOf track_app words m → IsGiven (found_of m) asked
    → IsAsked words asked
asked words m (Run o) has given = options words m o has given
asked words m (Show text) has given = absurd given

-- what the arguments give is found
pub all_given : (words : List Text) (m : ArgMatches) → HasMatchesOf track_app words m
    → AreGiven (value_in track_app words) (values_in track_app words)
    → AreGiven (first_value (found_of m)) (values_found (found_of m))
all_given words m has given = record {
  setup = given.setup;
  guides = given.guides;
  counters = given.counters;
  at = given.at;
  moment = given.moment;
  input = given.input;
  output = given.output;
  documents = given.documents;
  setup_named = found track_app simple words m (codes "setup") has ∙ given.setup_named;
  guides_named = all_found track_app simple words m (codes "guide") has ∙ given.guides_named;
  counters_named = found track_app simple words m (codes "counters") has ∙ given.counters_named;
  at_named = found track_app simple words m (codes "at") has ∙ given.at_named;
  input_named = found track_app simple words m (codes "in") has ∙ given.input_named;
  output_named = found track_app simple words m (codes "track") has ∙ given.output_named;
  documents_named = ap documents_given (all_found track_app simple words m (codes "document") has) ∙ given.documents_named;
  workers = given.workers;
  piece = given.piece;
  workers_named = ap workers_given (found track_app simple words m (codes "workers") has) ∙ given.workers_named;
  piece_named = ap piece_given (found track_app simple words m (codes "piece") has) ∙ given.piece_named;
}
