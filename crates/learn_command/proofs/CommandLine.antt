-- What clap found in the arguments is what the definitions say of them.
use Rattle.std.proofs.Common.{◌≡◌, ◌∙◌, List, true, codes, refl, String, sym, ap, subst}
use Rattle.clap.specs.Words.{HasMatchesOf, Text, first_value, found_of, is_simple, is_simple_and_free}
use Rattle.clap.specs.declared.parser.matches.ArgMatches.{ArgMatches}
use Rattle.clap.proofs.OnLiterals.{clap_on_literals}
use Rattle.std.specs.declared.alloc.Global.{Global}
use Rattle.system_io.specs.Words.{or_none, values_found}
use Rattle.system_io.proofs.ForAbove.{all_found, found}
use Rattle.program_frame.specs.Arguments.{value_in, values_in}
use Rattle.program_frame.specs.Matching.{AsksForText}
use Rattle.learn_command.specs.CommandLine.{AreOptions, IsAsked, IsGiven, NamesNone, learn_app}
use Rattle.learn_command.specs.declared.command.Asked.{Asked}
use Rattle.learn_command.specs.declared.command.Asked.TheVariants.{Learn, Show}
use Rattle.learn_command.specs.declared.command.Options.{Options}

simple : is_simple learn_app ≡ true
unfolding clap_on_literals
simple = refl

pub free : is_simple_and_free learn_app ≡ true
unfolding clap_on_literals
free = refl

pub asked : (words : List Text) (m : ArgMatches) (asked : Asked) → HasMatchesOf learn_app words m
    → IsGiven (first_value (found_of m)) (values_found (found_of m)) asked → IsAsked words asked
asked words m (Learn options) has given = record {
  known = sym (ap or_none (all_found learn_app simple words m (codes "known") has)) ∙ given.known;
  set = sym (found learn_app simple words m (codes "set") has) ∙ given.set;
  files = sym (ap or_none (all_found learn_app simple words m (codes "file") has)) ∙ given.files;
  some = given.some;
}
asked words m (Show text) has given = absurd given

-- where clap found no file, the arguments name none
pub none_named : (words : List Text) (m : ArgMatches) → HasMatchesOf learn_app words m → NamesNone (values_found (found_of m))
    → NamesNone (values_in learn_app words)
none_named words m has none = sym (ap or_none (all_found learn_app simple words m (codes "file") has)) ∙ none

-- the options that are asked for are those of the arguments
pub options_named : (words : List Text) (asked : Asked) (options : Options) → asked ≡ Learn options → IsAsked words asked
    → AreOptions (value_in learn_app words) (values_in learn_app words) options
options_named words asked options is by = subst (λ (a : Asked). IsAsked words a) is by

-- the text that is asked for isn't shown in place of a guide
pub text_asked : (words : List Text) (asked : Asked) (text : String Global) → asked ≡ Show text → IsAsked words asked
    → AsksForText learn_app words
text_asked words asked text is by = subst (λ (a : Asked). IsAsked words a) is by
