-- What clap found in the arguments is what the definitions say of them.
use Rattle.std.proofs.Common.{◌≡◌, ◌∙◌, List, true, codes, refl, String, sym, ap, subst}
use Rattle.clap.specs.Words.{HasMatchesOf, Text, first_value, found_of, is_simple, is_simple_and_free}
use Rattle.clap.specs.declared.parser.matches.ArgMatches.{ArgMatches}
use Rattle.clap.proofs.OnLiterals.{clap_on_literals}
use Rattle.std.specs.declared.alloc.Global.{Global}
use Rattle.system_io.specs.Words.{or_none, values_found}
use Rattle.system_io.proofs.ForAbove.{all_found, found}
use Rattle.program_frame.specs.Matching.{AsksForText}
use Rattle.explain_command.specs.CommandLine.{IsAsked, IsGiven, NamesFiles, NamesNone, explain_app, names_given}
use Rattle.explain_command.specs.CommandLine.{names_in, paths_in, values_of}
use Rattle.explain_command.specs.declared.command.Paths.{Paths}
use Rattle.explain_command.specs.declared.command.Asked.{Asked}
use Rattle.explain_command.specs.declared.command.Asked.TheVariants.{Explain, Show}

simple : is_simple explain_app ≡ true
unfolding clap_on_literals
simple = refl

pub free : is_simple_and_free explain_app ≡ true
unfolding clap_on_literals
free = refl

pub asked : (words : List Text) (m : ArgMatches) (asked : Asked) → HasMatchesOf explain_app words m
    → IsGiven (values_found (found_of m)) (first_value (found_of m)) asked → IsAsked words asked
asked words m (Explain paths) has given = (
  record {
    given = sym (ap or_none (all_found explain_app simple words m (codes "file") has)) ∙ given.0.given;
    some = given.0.some;
  },
  sym (found explain_app simple words m (codes "names") has) ∙ given.1,
)
asked words m (Show text) has given = absurd given

-- where clap found no file, the arguments name none
pub none_named : (words : List Text) (m : ArgMatches) → HasMatchesOf explain_app words m → NamesNone (values_found (found_of m))
    → NamesNone (values_of words)
none_named words m has none = sym (ap or_none (all_found explain_app simple words m (codes "file") has)) ∙ none

-- the files that are asked for are those that the arguments name
pub files_named : (words : List Text) (asked : Asked) (paths : Paths) → asked ≡ Explain paths → IsAsked words asked
    → NamesFiles words (paths_in paths) × (names_given words ≡ names_in paths)
files_named words asked paths is by = subst (λ (a : Asked). IsAsked words a) is by

-- the text that is asked for isn't shown in place of a file
pub text_asked : (words : List Text) (asked : Asked) (text : String Global) → asked ≡ Show text → IsAsked words asked
    → AsksForText explain_app words
text_asked words asked text is by = subst (λ (a : Asked). IsAsked words a) is by
