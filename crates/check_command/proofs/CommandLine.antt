-- What clap found in the arguments is what the definitions say of them.
use Rattle.std.proofs.Common.{◌≡◌, ◌∙◌, ℕ, List, [], ◌∷◌, length, map, Option, None, Some, option_map, true, false, codes}
use Rattle.std.proofs.Common.{ap, arith, is_some, refl, subst, sym}
use Rattle.std.specs.Borrow.{Bor}
use Rattle.clap.specs.Words.{HasMatchesOf, Text, first_value, found_of, is_simple, is_simple_and_free}
use Rattle.clap.specs.declared.parser.matches.ArgMatches.{ArgMatches}
use Rattle.clap.proofs.OnLiterals.{clap_on_literals}
use Rattle.system_io.specs.Words.{or_none, values_found}
use Rattle.system_io.proofs.ForAbove.{all_found, found}
use Rattle.program_frame.specs.Arguments.{value_in, values_in}
use Rattle.program_frame.specs.Matching.{AsksForText}
use Rattle.check_command.specs.CommandLine.{AreNone, AreOptions, IsAsked, IsGiven, check_app, is_all, names_none}
use Rattle.check_command.specs.declared.command.Asked.{Asked}
use Rattle.check_command.specs.declared.command.Asked.TheVariants.{Check, Show}
use Rattle.check_command.specs.declared.command.Options.{Options}
use Rattle.std.specs.declared.alloc.Global.{Global}
use Rattle.std.specs.declared.string.String.{String}

simple : is_simple check_app ≡ true
unfolding clap_on_literals
simple = refl

pub free : is_simple_and_free check_app ≡ true
unfolding clap_on_literals
free = refl

pub asked : (words : List Text) (m : ArgMatches) (asked : Asked) → HasMatchesOf check_app words m
    → IsGiven (first_value (found_of m)) (values_found (found_of m)) asked → IsAsked words asked
asked words m (Check o) has given = record {
  setup = sym (found check_app simple words m (codes "setup") has) ∙ given.setup;
  guides = sym (ap or_none (all_found check_app simple words m (codes "guide") has)) ∙ given.guides;
  counters = sym (found check_app simple words m (codes "counters") has) ∙ given.counters;
  all = sym (ap is_all (found check_app simple words m (codes "all") has)) ∙ given.all;
  some = given.some;
}
asked words m (Show text) has given = absurd given

no_text : (text : String Global) (o : Options) → Show text ≡ Check o → ⊥
no_text text o e = cc

-- the text that is asked for isn't shown in place of a check
pub text_asked : (words : List Text) (asked : Asked) (text : String Global) → asked ≡ Show text → IsAsked words asked
    → AsksForText check_app words
text_asked words asked text is by = subst (λ (a : Asked). IsAsked words a) is by

none_setup : (o : Option (Bor (List ℕ))) (v : Option Text) → v ≡ option_map (λ s. s.now) o → is_some o ≡ false → v ≡ None
none_setup None v e is = e
none_setup (Some s) v e is = cc

none_listed : (gs : List (Bor (List ℕ))) (v : List Text) → v ≡ map (λ g. g.now) gs → length gs ≡ 0 → v ≡ []
none_listed [] v e is = e
none_listed (g ∷ gs) v e is = cc

-- options that name no file have no value
pub none_given : (value : Text → Option Text) (values : Text → Option (List Text)) (o : Options) → names_none o ≡ true
    → value (codes "setup") ≡ option_map (λ s. s.now) o.setup → or_none (values (codes "guide")) ≡ map (λ g. g.now) o.guides.items
    → value (codes "counters") ≡ option_map (λ c. c.now) o.counters → AreNone value values
none_given value values o none setup guides counters = record {
  setup = none_setup o.setup (value (codes "setup")) setup (grind arith);
  guides = none_listed o.guides.items (or_none (values (codes "guide"))) guides (grind arith);
  counters = none_setup o.counters (value (codes "counters")) counters (grind arith);
}

-- and the arguments give them none
pub none_valued : (words : List Text) (m : ArgMatches) → HasMatchesOf check_app words m
    → AreNone (first_value (found_of m)) (values_found (found_of m)) → AreNone (value_in check_app words) (values_in check_app words)
none_valued words m has none = record {
  setup = sym (found check_app simple words m (codes "setup") has) ∙ none.setup;
  guides = sym (ap or_none (all_found check_app simple words m (codes "guide") has)) ∙ none.guides;
  counters = sym (found check_app simple words m (codes "counters") has) ∙ none.counters;
}

-- arguments by which files are checked name them
pub named : (words : List Text) (asked : Asked) (o : Options) → asked ≡ Check o → IsAsked words asked
    → AreOptions (value_in check_app words) (values_in check_app words) o
named words (Check p) o e is =
    let same : p ≡ o = cc in subst (λ (x : Options). AreOptions (value_in check_app words) (values_in check_app words) x) same is
named words (Show text) o e is = absurd (no_text text o e)
