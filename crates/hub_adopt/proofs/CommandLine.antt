-- What clap found in the arguments is what the definitions say of them.
use Rattle.std.proofs.Common.{◌≡◌, ◌∙◌, ◌&&◌, ℕ, Bool, List, Option, None, Some, true, false}
use Rattle.std.proofs.Common.{Result, Ok, Err, ap, arith, codes, if◌then◌else◌, refl, String, subst, sym}
use Rattle.std.specs.Result.{IfErr, IsErrAnd}
use Rattle.std.specs.declared.alloc.Global.{Global}
use Rattle.clap.specs.Words.{HasMatchesOf, Text, first_value, found_of, is_simple, is_simple_and_free}
use Rattle.clap.specs.declared.parser.matches.ArgMatches.{ArgMatches}
use Rattle.clap.proofs.OnLiterals.{clap_on_literals}
use Rattle.night_command.specs.CommandLine.{CanShare, piece_given, workers_given}
use Rattle.system_io.proofs.ForAbove.{found}
use Rattle.program_frame.specs.Arguments.{value_in}
use Rattle.program_frame.specs.Matching.{AsksForText}
use Rattle.hub_folder.specs.Names.{is_path}
use Rattle.hub_night.proofs.ForAbove.{given_within}
use Rattle.hub_adopt.specs.Asked.{IsAsked, IsRequest, request_as}
use Rattle.hub_adopt.specs.CommandLine.{Request, adopt_app, is_adopt, request_by, request_given, request_in, request_of}
use Rattle.hub_adopt.specs.declared.command.Asked.{Asked}
use Rattle.hub_adopt.specs.declared.command.Asked.TheVariants.{Adopt, Show}
use Rattle.hub_adopt.specs.declared.command.Options.{Options}

simple : is_simple adopt_app ≡ true
unfolding clap_on_literals
simple = refl

pub free : is_simple_and_free adopt_app ≡ true
unfolding clap_on_literals
free = refl

one : (words : List Text) (m : ArgMatches) → HasMatchesOf adopt_app words m → (name : Text)
    → first_value (found_of m) name ≡ value_in adopt_app words name
one words m has name = found adopt_app simple words m name has

-- what the values ask for that clap found is what the arguments ask for
pub same : (words : List Text) (m : ArgMatches) → HasMatchesOf adopt_app words m
    → request_of (first_value (found_of m)) ≡ request_in words
same words m has =
    let a : Text → Option Text = first_value (found_of m) in
    let b : Text → Option Text = value_in adopt_app words in
    ap (λ (x : Option Text). request_given x (a (codes "hub")) (a (codes "nights")) (workers_given (a (codes "workers"))) (piece_given (a
    (codes "piece"))))
    (one words m has (codes "command"))
    ∙ ap (λ (x : Option Text). request_given (b (codes "command")) x (a (codes "nights")) (workers_given (a
    (codes "workers"))) (piece_given (a (codes "piece"))))
    (one words m has (codes "hub"))
    ∙ ap (λ (x : Option Text). request_given (b (codes "command")) (b (codes "hub")) x (workers_given (a (codes "workers"))) (piece_given (a
    (codes "piece"))))
    (one words m has (codes "nights"))
    ∙ ap (λ (x : Option Text). request_given (b (codes "command")) (b (codes "hub")) (b (codes "nights")) (workers_given x) (piece_given (a
    (codes "piece"))))
    (one words m has (codes "workers"))
    ∙ ap (λ (x : Option Text). request_given (b (codes "command")) (b (codes "hub")) (b (codes "nights")) (workers_given (b
    (codes "workers"))) (piece_given x))
    (one words m has (codes "piece"))

pub asked : (words : List Text) (m : ArgMatches) (asked : Asked) → HasMatchesOf adopt_app words m
    → IsRequest (request_of (first_value (found_of m))) asked → IsAsked words asked
asked words m (Adopt options) has given = sym (same words m has) ∙ given
asked words m (Show text) has given = absurd given

pub adopt_asked : (words : List Text) (asked : Asked) (options : Options) → asked ≡ Adopt options → IsAsked words asked
    → request_in words ≡ Some (request_as options)
adopt_asked words asked options is by = subst (λ (a : Asked). IsAsked words a) is by

-- the text that is asked for isn't shown in place of anything else
pub text_asked : (words : List Text) (asked : Asked) (text : String Global) → asked ≡ Show text → IsAsked words asked
    → AsksForText adopt_app words
text_asked words asked text is by = subst (λ (a : Asked). IsAsked words a) is by

-- a mistake that is handed on
pub handed_on : {A E : Type 0} (r : Result A E) (e : E) (P : E → Type 0) → IsErrAnd r (λ f. f ≡ e) → P e → IfErr r P
handed_on (Ok x) e P same holds = tt
handed_on (Err f) e P same holds = subst P (sym same) holds

request_is : (b : Bool) (r q : Request) → (if b then Some r else None) ≡ Some q → r ≡ q
request_is true r q is = cc
request_is false r q is = absurd (cc)

by_shares : (command hub nights : Text) (w p : Option ℕ) (workers piece : Option Text) (options : Options) → w ≡ workers_given workers
    → p ≡ piece_given piece → request_by command hub nights w p ≡ Some (request_as options) → CanShare options.sharing
by_shares command hub nights None p workers piece options ws ps is = absurd (cc)
by_shares command hub nights (Some w) None workers piece options ws ps is = absurd (cc)
by_shares command hub nights (Some w) (Some p) workers piece options ws ps is =
    let made : Request = record { hub = hub; nights = nights; workers = w; piece = p } in
    let same = request_is (is_adopt command && (is_path hub && is_path nights)) made (request_as options) is in
    let some = given_within 4 64 w workers (omega arith) (omega arith) (sym ws) in
    let bytes = given_within 1048576 4294967295 p piece (omega arith) (omega arith) (sym ps) in
    subst (λ (r : Request). CanShare (record { workers = r.workers; piece = r.piece })) same
    (record { some = some.0; few = some.1; piece = bytes.0; short = bytes.1 })

given_shares : (command hub nights workers piece : Option Text) (options : Options)
    → request_given command hub nights (workers_given workers) (piece_given piece) ≡ Some (request_as options) → CanShare options.sharing
given_shares None hub nights workers piece options is = absurd (cc)
given_shares (Some command) None nights workers piece options is = absurd (cc)
given_shares (Some command) (Some hub) None workers piece options is = absurd (cc)
given_shares (Some command) (Some hub) (Some nights) workers piece options is =
    by_shares command hub nights (workers_given workers) (piece_given piece) workers piece options refl refl is

-- an adoption that the arguments ask for can be shared as they say
pub can_share : (words : List Text) (asked : Asked) (options : Options) → asked ≡ Adopt options → IsAsked words asked
    → CanShare options.sharing
can_share words asked options is by =
    let value : Text → Option Text = value_in adopt_app words in
    given_shares (value (codes "command")) (value (codes "hub")) (value (codes "nights")) (value (codes "workers"))
    (value (codes "piece")) options
    (adopt_asked words asked options is by)
