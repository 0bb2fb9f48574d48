-- What clap found in the arguments is what the definitions say of them.
use Rattle.std.proofs.Common.{◌≡◌, ◌∙◌, List, true, codes, refl, String, sym, subst}
use Rattle.clap.specs.Words.{HasMatchesOf, Text, first_value, found_of, is_simple, is_simple_and_free}
use Rattle.clap.specs.declared.parser.matches.ArgMatches.{ArgMatches}
use Rattle.clap.proofs.OnLiterals.{clap_on_literals}
use Rattle.std.specs.declared.alloc.Global.{Global}
use Rattle.system_io.proofs.ForAbove.{found}
use Rattle.program_frame.specs.Matching.{AsksForText}
use Rattle.page_command.specs.declared.command.Paths.{Paths}
use Rattle.page_command.specs.CommandLine.{ArePaths, IsAsked, IsGiven, NamesNone, page_app, value_of}
use Rattle.page_command.specs.declared.command.Asked.{Asked}
use Rattle.page_command.specs.declared.command.Asked.TheVariants.{Page, Show}

simple : is_simple page_app ≡ true
unfolding clap_on_literals
simple = refl

pub free : is_simple_and_free page_app ≡ true
unfolding clap_on_literals
free = refl

pub asked : (words : List Text) (m : ArgMatches) (asked : Asked) → HasMatchesOf page_app words m → IsGiven (first_value (found_of m)) asked
    → IsAsked words asked
asked words m (Page paths) has given = (
  sym (found page_app simple words m (codes "guide") has) ∙ given.0,
  sym (found page_app simple words m (codes "names") has) ∙ given.1,
  sym (found page_app simple words m (codes "samples") has) ∙ given.2,
)
asked words m (Show text) has given = absurd given

-- a guide that clap didn't find isn't named
pub none_named : (words : List Text) (m : ArgMatches) → HasMatchesOf page_app words m → NamesNone (first_value (found_of m))
    → NamesNone (value_of words)
none_named words m has none = sym (found page_app simple words m (codes "guide") has) ∙ none

-- the files that are asked for are those that the arguments name
pub paths_named : (words : List Text) (asked : Asked) (paths : Paths) → asked ≡ Page paths → IsAsked words asked
    → ArePaths (value_of words) paths
paths_named words asked paths is by = subst (λ (a : Asked). IsAsked words a) is by

-- the text that is asked for isn't shown in place of a sample
pub text_asked : (words : List Text) (asked : Asked) (text : String Global) → asked ≡ Show text → IsAsked words asked
    → AsksForText page_app words
text_asked words asked text is by = subst (λ (a : Asked). IsAsked words a) is by
