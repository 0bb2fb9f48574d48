-- What clap found in the arguments is what the definitions say of them.
use Rattle.std.proofs.Common.{◌≡◌, ◌∙◌, ℕ, List, Option, Some, Result, Ok, Err, true, ap, codes, refl, String, sym, subst}
use Rattle.std.specs.Result.{IfErr, IsErrAnd}
use Rattle.clap.specs.Words.{HasMatchesOf, Text, first_value, found_of, is_simple, is_simple_and_free}
use Rattle.clap.specs.declared.parser.matches.ArgMatches.{ArgMatches}
use Rattle.clap.proofs.OnLiterals.{clap_on_literals}
use Rattle.std.specs.Borrow.{Bor}
use Rattle.std.specs.declared.alloc.Global.{Global}
use Rattle.system_io.proofs.ForAbove.{found}
use Rattle.program_frame.specs.Matching.{AsksForText}
use Rattle.sets_again.specs.declared.wanted.Wanted.{Wanted}
use Rattle.track_read.specs.declared.export.Form.{Form}
use Rattle.day_command.specs.CommandLine.{IsAsked, IsRequest, again, check, day_app, export, find, page}
use Rattle.day_command.specs.CommandLine.{request_given}
use Rattle.day_command.specs.CommandLine.{request_of, value_of}
use Rattle.day_command.specs.declared.command.Asked.{Asked}
use Rattle.day_command.specs.declared.command.Asked.TheVariants.{Again, Check, Export, Find, Page, Show}

simple : is_simple day_app ≡ true
unfolding clap_on_literals
simple = refl

pub free : is_simple_and_free day_app ≡ true
unfolding clap_on_literals
free = refl

five : (a b c d e f g h j k : Option Text) → a ≡ f → b ≡ g → c ≡ h → d ≡ j → e ≡ k → request_given a b c d e ≡ request_given f g h j k
five a b c d e f g h j k one two three next last =
    ap (λ (o : Option Text). request_given o b c d e) one ∙ ap (λ (o : Option Text). request_given f o c d e) two
    ∙ ap (λ (o : Option Text). request_given f g o d e) three ∙ ap (λ (o : Option Text). request_given f g h o e) next
    ∙ ap (λ (o : Option Text). request_given f g h j o) last

-- what the values ask for that clap found is what the arguments ask for
pub same : (words : List Text) (m : ArgMatches) → HasMatchesOf day_app words m
    → request_of (first_value (found_of m)) ≡ request_of (value_of words)
same words m has =
    let value : Text → Option Text = first_value (found_of m) in
    let given : Text → Option Text = value_of words in
    five (value (codes "command")) (value (codes "nights")) (value (codes "text")) (value (codes "sheet")) (value (codes "rejected"))
    (given (codes "command")) (given (codes "nights")) (given (codes "text")) (given (codes "sheet")) (given (codes "rejected"))
    (found day_app simple words m (codes "command") has) (found day_app simple words m (codes "nights") has)
    (found day_app simple words m (codes "text") has)
    (found day_app simple words m (codes "sheet") has) (found day_app simple words m (codes "rejected") has)

pub asked : (words : List Text) (m : ArgMatches) (asked : Asked) → HasMatchesOf day_app words m
    → IsRequest (request_of (first_value (found_of m))) asked → IsAsked words asked
asked words m (Check nights) has given = sym (same words m has) ∙ given
asked words m (Find nights text) has given = sym (same words m has) ∙ given
asked words m (Export nights form) has given = sym (same words m has) ∙ given
asked words m (Page nights night) has given = sym (same words m has) ∙ given
asked words m (Again nights night which) has given = sym (same words m has) ∙ given
asked words m (Show text) has given = absurd given

-- what is asked for is what the arguments ask for
pub check_asked : (words : List Text) (asked : Asked) (nights : Bor (List ℕ)) → asked ≡ Check nights → IsAsked words asked
    → request_of (value_of words) ≡ Some (check nights.now)
check_asked words asked nights is by = subst (λ (a : Asked). IsAsked words a) is by

pub find_asked : (words : List Text) (asked : Asked) (nights text : Bor (List ℕ)) → asked ≡ Find nights text → IsAsked words asked
    → request_of (value_of words) ≡ Some (find nights.now text.now)
find_asked words asked nights text is by = subst (λ (a : Asked). IsAsked words a) is by

pub export_asked : (words : List Text) (asked : Asked) (nights : Bor (List ℕ)) (form : Form) → asked ≡ Export nights form
    → IsAsked words asked → request_of (value_of words) ≡ Some (export nights.now form)
export_asked words asked nights form is by = subst (λ (a : Asked). IsAsked words a) is by

pub page_asked : (words : List Text) (asked : Asked) (nights night : Bor (List ℕ)) → asked ≡ Page nights night → IsAsked words asked
    → request_of (value_of words) ≡ Some (page nights.now night.now)
page_asked words asked nights night is by = subst (λ (a : Asked). IsAsked words a) is by

pub again_asked : (words : List Text) (asked : Asked) (nights night : Bor (List ℕ)) (which : Wanted) → asked ≡ Again nights night which
    → IsAsked words asked → request_of (value_of words) ≡ Some (again nights.now night.now which)
again_asked words asked nights night which is by = subst (λ (a : Asked). IsAsked words a) is by

-- the text that is asked for isn't shown in place of anything else
pub text_asked : (words : List Text) (asked : Asked) (text : String Global) → asked ≡ Show text → IsAsked words asked
    → AsksForText day_app words
text_asked words asked text is by = subst (λ (a : Asked). IsAsked words a) is by

-- a mistake that is handed on
pub handed_on : {A E : Type 0} (r : Result A E) (e : E) (P : E → Type 0) → IsErrAnd r (λ f. f ≡ e) → P e → IfErr r P
handed_on (Ok x) e P same holds = tt
handed_on (Err f) e P same holds = subst P (sym same) holds
