-- What clap found in the arguments is what the definitions say of them.
use Rattle.std.proofs.Common.{◌≡◌, ◌∙◌, List, true, codes, refl, String, sym, ap, subst}
use Rattle.clap.specs.Words.{HasMatchesOf, Text, first_value, found_of, is_simple, is_simple_and_free}
use Rattle.clap.specs.declared.parser.matches.ArgMatches.{ArgMatches}
use Rattle.clap.proofs.OnLiterals.{clap_on_literals}
use Rattle.std.specs.declared.alloc.Global.{Global}
use Rattle.system_io.specs.Words.{or_none, values_found}
use Rattle.system_io.proofs.ForAbove.{all_found, found}
use Rattle.gather_command.specs.declared.command.Job.{Job}
use Rattle.program_frame.specs.Arguments.{value_in, values_in}
use Rattle.program_frame.specs.Matching.{AsksForText}
use Rattle.gather_command.specs.CommandLine.{IsAsked, IsGiven, IsJob, NamesNone, gather_app}
use Rattle.gather_command.specs.declared.command.Asked.{Asked}
use Rattle.gather_command.specs.declared.command.Asked.TheVariants.{Gather, Show}

simple : is_simple gather_app ≡ true
unfolding clap_on_literals
simple = refl

pub free : is_simple_and_free gather_app ≡ true
unfolding clap_on_literals
free = refl

pub asked : (words : List Text) (m : ArgMatches) (asked : Asked) → HasMatchesOf gather_app words m
    → IsGiven (first_value (found_of m)) (values_found (found_of m)) asked → IsAsked words asked
asked words m (Gather job) has given = record {
  out = sym (found gather_app simple words m (codes "out") has) ∙ given.out;
  files = sym (ap or_none (all_found gather_app simple words m (codes "file") has)) ∙ given.files;
}
asked words m (Show text) has given = absurd given

-- where clap found no file to make, the arguments name none
pub none_named : (words : List Text) (m : ArgMatches) → HasMatchesOf gather_app words m → NamesNone (first_value (found_of m))
    → NamesNone (value_in gather_app words)
none_named words m has none = sym (found gather_app simple words m (codes "out") has) ∙ none

-- the job that is asked for is the one that the arguments name
pub job_named : (words : List Text) (asked : Asked) (job : Job) → asked ≡ Gather job → IsAsked words asked
    → IsJob (value_in gather_app words) (values_in gather_app words) job
job_named words asked job is by = subst (λ (a : Asked). IsAsked words a) is by

-- the text that is asked for isn't shown in place of a job
pub text_asked : (words : List Text) (asked : Asked) (text : String Global) → asked ≡ Show text → IsAsked words asked
    → AsksForText gather_app words
text_asked words asked text is by = subst (λ (a : Asked). IsAsked words a) is by
