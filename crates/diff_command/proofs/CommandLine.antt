-- What clap found in the arguments is what the definitions say of them.
use Rattle.std.proofs.Common.{◌≡◌, ◌∙◌, List, true, codes, refl, String, sym, subst, inl, inr}
use Rattle.clap.specs.Words.{HasMatchesOf, Text, first_value, found_of, is_simple, is_simple_and_free}
use Rattle.clap.specs.declared.parser.matches.ArgMatches.{ArgMatches}
use Rattle.clap.proofs.OnLiterals.{clap_on_literals}
use Rattle.std.specs.declared.alloc.Global.{Global}
use Rattle.system_io.proofs.ForAbove.{found}
use Rattle.program_frame.specs.Matching.{AsksForText}
use Rattle.diff_command.specs.CommandLine.{AreGuides, ArePaths, IsAsked, IsGiven, NamesTooFew, diff_app, value_of}
use Rattle.diff_command.specs.declared.command.Asked.{Asked}
use Rattle.diff_command.specs.declared.command.Asked.TheVariants.{Compare, Show}
use Rattle.diff_command.specs.declared.command.Paths.{Paths}

simple : is_simple diff_app ≡ true
unfolding clap_on_literals
simple = refl

pub free : is_simple_and_free diff_app ≡ true
unfolding clap_on_literals
free = refl

pub asked : (words : List Text) (m : ArgMatches) (asked : Asked) → HasMatchesOf diff_app words m → IsGiven (first_value (found_of m)) asked
    → IsAsked words asked
asked words m (Compare paths) has given = record {
  guides = record {
    was = sym (found diff_app simple words m (codes "old") has) ∙ given.guides.was;
    is = sym (found diff_app simple words m (codes "new") has) ∙ given.guides.is;
  };
  folder = sym (found diff_app simple words m (codes "samples") has) ∙ given.folder;
}
asked words m (Show text) has given = absurd given

-- a guide that clap didn't find isn't named
pub too_few_named : (words : List Text) (m : ArgMatches) → HasMatchesOf diff_app words m → NamesTooFew (first_value (found_of m))
    → NamesTooFew (value_of words)
too_few_named words m has (inl none) = inl (sym (found diff_app simple words m (codes "old") has) ∙ none)
too_few_named words m has (inr none) = inr (sym (found diff_app simple words m (codes "new") has) ∙ none)

-- the guides that are asked for are those that the arguments name
pub guides_named : (words : List Text) (asked : Asked) (paths : Paths) → asked ≡ Compare paths → IsAsked words asked
    → AreGuides (value_of words) paths.old.now paths.new.now
guides_named words asked paths is by =
    let named : ArePaths (value_of words) paths = subst (λ (a : Asked). IsAsked words a) is by in named.guides

-- the text that is asked for isn't shown in place of a comparison
pub text_asked : (words : List Text) (asked : Asked) (text : String Global) → asked ≡ Show text → IsAsked words asked
    → AsksForText diff_app words
text_asked words asked text is by = subst (λ (a : Asked). IsAsked words a) is by
