-- What clap found in the arguments is what the definitions say of them.
use Rattle.std.proofs.Common.{◌≡◌, ◌∙◌, ◌&&◌, ◌⊎◌, ℕ, Bool, List, Option, None, Some, true, false}
use Rattle.std.proofs.Common.{Result, Ok, Err, ap, codes, refl, String, sym, subst, arith}
use Rattle.std.proofs.Common.{if◌then◌else◌, inl, inr, not}
use Rattle.std.specs.Result.{IfErr, IsErrAnd}
use Rattle.std.specs.Str.{bytes_eq}
use Rattle.moment.specs.Calendar.{is_moment}
use Rattle.clap.specs.Words.{HasMatchesOf, Text, first_value, found_of, is_simple, is_simple_and_free}
use Rattle.clap.specs.declared.parser.matches.ArgMatches.{ArgMatches}
use Rattle.clap.proofs.OnLiterals.{clap_on_literals}
use Rattle.std.specs.Borrow.{Bor}
use Rattle.std.specs.declared.alloc.Global.{Global}
use Rattle.night_command.specs.CommandLine.{CanShare, piece_given, workers_given}
use Rattle.system_io.specs.Words.{or_none, values_found}
use Rattle.system_io.proofs.ForAbove.{all_found, found}
use Rattle.program_frame.specs.Arguments.{value_in, values_in}
use Rattle.program_frame.specs.Matching.{AsksForText}
use Rattle.hub_command.specs.Asked.{IsAsked, IsRequest, run_in}
use Rattle.hub_night.proofs.ForAbove.{given_within}
use Rattle.hub_command.specs.CommandLine.{Request, Rest, RunRequest, are_none, bare_by, give_up, hub_app, init, is_bare}
use Rattle.hub_command.specs.CommandLine.{is_given, is_name_or_none, request_by, request_given, request_in, request_of, rest_of}
use Rattle.hub_folder.specs.Names.{is_path}
use Rattle.hub_command.specs.CommandLine.{run, run_by, run_given}
use Rattle.hub_command.specs.declared.command.Asked.{Asked}
use Rattle.hub_command.specs.declared.command.Asked.TheVariants.{GiveUp, Init, Run, Show}
use Rattle.hub_command.specs.declared.command.Options.{Options}

simple : is_simple hub_app ≡ true
unfolding clap_on_literals
simple = refl

pub free : is_simple_and_free hub_app ≡ true
unfolding clap_on_literals
free = refl

rest_with : (files again : List Text) (at name workers piece : Option Text) (not_sent : Bool) → Rest
rest_with files again at name workers piece not_sent =
    record { files = files; again = again; at = at; name = name; workers = workers; piece = piece; not_sent = not_sent }

one : (words : List Text) (m : ArgMatches) → HasMatchesOf hub_app words m → (name : Text)
    → first_value (found_of m) name ≡ value_in hub_app words name
one words m has name = found hub_app simple words m name has

several : (words : List Text) (m : ArgMatches) → HasMatchesOf hub_app words m → (name : Text)
    → values_found (found_of m) name ≡ values_in hub_app words name
several words m has name = all_found hub_app simple words m name has

-- the rest that clap found is the rest that the arguments give
same_rest : (words : List Text) (m : ArgMatches) → HasMatchesOf hub_app words m
    → rest_of (first_value (found_of m)) (values_found (found_of m)) ≡ rest_of (value_in hub_app words) (values_in hub_app words)
unfolding rest_with
same_rest words m has =
    let a : Text → Option Text = first_value (found_of m) in
    let b : Text → Option Text = value_in hub_app words in
    let files : List Text = or_none (values_in hub_app words (codes "file")) in
    let again : List Text = or_none (values_in hub_app words (codes "again")) in
    ap (λ (x : Option (List Text)). rest_with (or_none x) (or_none (values_found (found_of m) (codes "again"))) (a (codes "at")) (a
    (codes "name")) (a (codes "workers")) (a (codes "piece")) (is_given (a (codes "not-sent"))))
    (several words m has (codes "file"))
    ∙ ap (λ (x : Option (List Text)). rest_with files (or_none x) (a (codes "at")) (a (codes "name")) (a (codes "workers")) (a
    (codes "piece")) (is_given (a (codes "not-sent"))))
    (several words m has (codes "again"))
    ∙ ap (λ (x : Option Text). rest_with files again x (a (codes "name")) (a (codes "workers")) (a (codes "piece")) (is_given (a
    (codes "not-sent"))))
    (one words m has (codes "at"))
    ∙ ap (λ (x : Option Text). rest_with files again (b (codes "at")) x (a (codes "workers")) (a (codes "piece")) (is_given (a
    (codes "not-sent"))))
    (one words m has (codes "name"))
    ∙ ap (λ (x : Option Text). rest_with files again (b (codes "at")) (b (codes "name")) x (a (codes "piece")) (is_given (a
    (codes "not-sent"))))
    (one words m has (codes "workers"))
    ∙ ap (λ (x : Option Text). rest_with files again (b (codes "at")) (b (codes "name")) (b (codes "workers")) x (is_given (a
    (codes "not-sent"))))
    (one words m has (codes "piece"))
    ∙ ap (λ (x : Option Text). rest_with files again (b (codes "at")) (b (codes "name")) (b (codes "workers")) (b
    (codes "piece")) (is_given x))
    (one words m has (codes "not-sent"))

-- what the values ask for that clap found is what the arguments ask for
pub same : (words : List Text) (m : ArgMatches) → HasMatchesOf hub_app words m
    → request_of (first_value (found_of m)) (values_found (found_of m)) ≡ request_in words
same words m has =
    let a : Text → Option Text = first_value (found_of m) in
    let b : Text → Option Text = value_in hub_app words in
    let rest : Rest = rest_of a (values_found (found_of m)) in
    ap (λ (x : Option Text). request_given x (a (codes "hub")) rest) (one words m has (codes "command"))
    ∙ ap (λ (x : Option Text). request_given (b (codes "command")) x rest) (one words m has (codes "hub"))
    ∙ ap (λ (x : Rest). request_given (b (codes "command")) (b (codes "hub")) x) (same_rest words m has)

pub asked : (words : List Text) (m : ArgMatches) (asked : Asked) → HasMatchesOf hub_app words m
    → IsRequest (request_of (first_value (found_of m)) (values_found (found_of m))) asked → IsAsked words asked
asked words m (Init hub) has given = sym (same words m has) ∙ given
asked words m (Run hub options) has given = sym (same words m has) ∙ given
asked words m (GiveUp hub not_sent) has given = sym (same words m has) ∙ given
asked words m (Show text) has given = absurd given

-- what is asked for is what the arguments ask for
pub init_asked : (words : List Text) (asked : Asked) (hub : Bor (List ℕ)) → asked ≡ Init hub → IsAsked words asked
    → request_in words ≡ Some (init hub.now)
init_asked words asked hub is by = subst (λ (a : Asked). IsAsked words a) is by

pub run_asked : (words : List Text) (asked : Asked) (hub : Bor (List ℕ)) (options : Options) → asked ≡ Run hub options → IsAsked words asked
    → request_in words ≡ Some (run hub.now (run_in options))
run_asked words asked hub options is by = subst (λ (a : Asked). IsAsked words a) is by

pub given_up_asked : (words : List Text) (asked : Asked) (hub : Bor (List ℕ)) (not_sent : Bool) → asked ≡ GiveUp hub not_sent
    → IsAsked words asked → request_in words ≡ Some (give_up hub.now not_sent)
given_up_asked words asked hub not_sent is by = subst (λ (a : Asked). IsAsked words a) is by

-- the text that is asked for isn't shown in place of anything else
pub text_asked : (words : List Text) (asked : Asked) (text : String Global) → asked ≡ Show text → IsAsked words asked
    → AsksForText hub_app words
text_asked words asked text is by = subst (λ (a : Asked). IsAsked words a) is by

-- a mistake that is handed on
pub handed_on : {A E : Type 0} (r : Result A E) (e : E) (P : E → Type 0) → IsErrAnd r (λ f. f ≡ e) → P e → IfErr r P
handed_on (Ok x) e P same holds = tt
handed_on (Err f) e P same holds = subst P (sym same) holds

run_is : (b : Bool) (hub to : Text) (r q : RunRequest) → (if b then Some (run hub r) else None) ≡ Some (run to q) → r ≡ q
run_is true hub to r q is = cc
run_is false hub to r q is = absurd (cc)

never_bare : (x y not_sent : Bool) (hub to : Text) (r : RunRequest)
    → (if x then Some (give_up hub not_sent) else if y then Some (init hub) else None) ≡ Some (run to r) → ⊥
never_bare true y not_sent hub to r is = cc
never_bare false true not_sent hub to r is = cc
never_bare false false not_sent hub to r is = cc

chosen : (path runs bare : Bool) (one two : Option Request) (x : Request)
    → (if not path then None else if runs then one else if not bare then None else two) ≡ Some x → (one ≡ Some x) ⊎ (two ≡ Some x)
chosen false runs bare one two x is = absurd (cc)
chosen true true bare one two x is = inl is
chosen true false true one two x is = inr is
chosen true false false one two x is = absurd (cc)

run_shares : (hub : Text) (files again : List Text) (at name workers piece : Option Text) (w p : Option ℕ) (to : Text) (options : Options)
    → w ≡ workers_given workers
    → p ≡ piece_given piece → run_given hub files again at name w p ≡ Some (run to (run_in options)) → CanShare options.sharing
run_shares hub files again None name workers piece w p to options ws ps is = absurd (cc)
run_shares hub files again (Some at) name workers piece None p to options ws ps is = absurd (cc)
run_shares hub files again (Some at) name workers piece (Some w) None to options ws ps is = absurd (cc)
run_shares hub files again (Some at) name workers piece (Some w) (Some p) to options ws ps is =
    let made : RunRequest = record { files = files; again = again; at = at; name = name; workers = w; piece = p } in
    let same = run_is (not (are_none files && are_none again) && (is_moment at && is_name_or_none name)) hub to made (run_in options) is in
    let some = given_within 4 64 w workers (omega arith) (omega arith) (sym ws) in
    let bytes = given_within 1048576 4294967295 p piece (omega arith) (omega arith) (sym ps) in
    subst (λ (r : RunRequest). CanShare (record { workers = r.workers; piece = r.piece })) same
    (record { some = some.0; few = some.1; piece = bytes.0; short = bytes.1 })

by_shares : (command hub : Text) (rest : Rest) (to : Text) (options : Options)
    → request_by command hub rest ≡ Some (run to (run_in options)) → CanShare options.sharing
by_shares command hub rest to options is =
    elim (chosen (is_path hub) (bytes_eq command (codes "run") && not rest.not_sent) (is_bare rest) (run_by hub rest)
    (bare_by command hub rest.not_sent) (run to (run_in options)) is) [
      | inl one ↦ run_shares hub rest.files rest.again rest.at rest.name rest.workers rest.piece (workers_given rest.workers)
          (piece_given rest.piece) to
          options refl refl one
      | inr two ↦ absurd (never_bare (bytes_eq command (codes "give-up")) (bytes_eq command
          (codes "init") && not rest.not_sent) rest.not_sent
          hub to (run_in options) two)
    ]

given_shares : (command hub : Option Text) (rest : Rest) (to : Text) (options : Options)
    → request_given command hub rest ≡ Some (run to (run_in options)) → CanShare options.sharing
given_shares None hub rest to options is = absurd (cc)
given_shares (Some command) None rest to options is = absurd (cc)
given_shares (Some command) (Some hub) rest to options is = by_shares command hub rest to options is

-- a run that the arguments ask for can be shared as they say
pub can_share : (words : List Text) (asked : Asked) (hub : Bor (List ℕ)) (options : Options) → asked ≡ Run hub options → IsAsked words asked
    → CanShare options.sharing
can_share words asked hub options is by =
    let value : Text → Option Text = value_in hub_app words in
    given_shares (value (codes "command")) (value (codes "hub")) (rest_of value (values_in hub_app words)) hub.now options
    (run_asked words asked hub options is by)
