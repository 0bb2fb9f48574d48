-- What clap found in the arguments is what the definitions say of them.
use Rattle.std.proofs.Common.{◌≡◌, ◌∙◌, List, Option, Some, true}
use Rattle.std.proofs.Common.{Result, Ok, Err, ap, codes, refl, String, subst, sym}
use Rattle.std.specs.Result.{IfErr, IsErrAnd}
use Rattle.std.specs.declared.alloc.Global.{Global}
use Rattle.clap.specs.Words.{HasMatchesOf, Text, first_value, found_of, is_simple, is_simple_and_free}
use Rattle.clap.specs.declared.parser.matches.ArgMatches.{ArgMatches}
use Rattle.clap.proofs.OnLiterals.{clap_on_literals}
use Rattle.system_io.proofs.ForAbove.{found}
use Rattle.program_frame.specs.Arguments.{value_in}
use Rattle.program_frame.specs.Matching.{AsksForText}
use Rattle.hub_archive.specs.Asked.{IsAsked, IsRequest, request_as}
use Rattle.hub_archive.specs.CommandLine.{archive_app, request_given, request_in, request_of}
use Rattle.hub_archive.specs.declared.command.Asked.{Asked}
use Rattle.hub_archive.specs.declared.command.Asked.TheVariants.{Archive, Show}
use Rattle.hub_archive.specs.declared.command.Options.{Options}

simple : is_simple archive_app ≡ true
unfolding clap_on_literals
simple = refl

pub free : is_simple_and_free archive_app ≡ true
unfolding clap_on_literals
free = refl

one : (words : List Text) (m : ArgMatches) → HasMatchesOf archive_app words m → (name : Text)
    → first_value (found_of m) name ≡ value_in archive_app words name
one words m has name = found archive_app simple words m name has

-- what the values ask for that clap found is what the arguments ask for
pub same : (words : List Text) (m : ArgMatches) → HasMatchesOf archive_app words m
    → request_of (first_value (found_of m)) ≡ request_in words
same words m has =
    let a : Text → Option Text = first_value (found_of m) in
    let b : Text → Option Text = value_in archive_app words in
    ap (λ (x : Option Text). request_given x (a (codes "hub")) (a (codes "keep"))) (one words m has (codes "command"))
    ∙ ap (λ (x : Option Text). request_given (b (codes "command")) x (a (codes "keep"))) (one words m has (codes "hub"))
    ∙ ap (λ (x : Option Text). request_given (b (codes "command")) (b (codes "hub")) x) (one words m has (codes "keep"))

pub asked : (words : List Text) (m : ArgMatches) (asked : Asked) → HasMatchesOf archive_app words m
    → IsRequest (request_of (first_value (found_of m))) asked → IsAsked words asked
asked words m (Archive options) has given = sym (same words m has) ∙ given
asked words m (Show text) has given = absurd given

pub archive_asked : (words : List Text) (asked : Asked) (options : Options) → asked ≡ Archive options → IsAsked words asked
    → request_in words ≡ Some (request_as options)
archive_asked words asked options is by = subst (λ (a : Asked). IsAsked words a) is by

-- the text that is asked for isn't shown in place of anything else
pub text_asked : (words : List Text) (asked : Asked) (text : String Global) → asked ≡ Show text → IsAsked words asked
    → AsksForText archive_app words
text_asked words asked text is by = subst (λ (a : Asked). IsAsked words a) is by

-- a mistake that is handed on
pub handed_on : {A E : Type 0} (r : Result A E) (e : E) (P : E → Type 0) → IsErrAnd r (λ f. f ≡ e) → P e → IfErr r P
handed_on (Ok x) e P same holds = tt
handed_on (Err f) e P same holds = subst P (sym same) holds
