-- What a run by these arguments may say of them.
use Rattle.std.proofs.Common.{◌≡◌, ◌≢◌, ◌≤◌, ◌⊎◌, inl, inr, List, ℕ, Option, String, arith, subst}
use Rattle.std.specs.declared.alloc.Global.{Global}
use Rattle.std.specs.Io.KnownBytes.{Appends}
use Rattle.clap.specs.Words.{Text}
use Rattle.program_frame.specs.Matching.{AsksForText}
use Rattle.night_command.specs.CommandLine.{IsAsked, NamesNight, hub_app}
use Rattle.night_command.specs.Outcome.{IsOutcome, IsPrinted, status_of, text_of}
use Rattle.night_command.specs.declared.command.Asked.{Asked}
use Rattle.night_command.specs.declared.command.Asked.TheVariants.{Run, Show}
use Rattle.night_command.specs.declared.command.Options.{Options}
use Rattle.night_command.specs.declared.outcome.Outcome.{Outcome}
use Rattle.night_command.specs.declared.outcome.Outcome.TheVariants.{Ran, Shown}

-- arguments by which a night is run name it
pub names : (words : List Text) (asked : Asked) (options : Options) → asked ≡ Run options → IsAsked words asked → NamesNight words
names words asked options is by = record { options = options; named = subst (λ (a : Asked). IsAsked words a) is by }

-- a night by the options of these arguments
pub night_named : (words : List Text) (asked : Asked) (options : Options) (status : ℕ) (was is : Option (List ℕ)) → asked ≡ Run options
    → IsAsked words asked → IsPrinted options status was is
    → (o : Outcome) × IsOutcome words o × (status ≡ status_of o) × Appends was is (text_of o)
night_named words asked options status was is so by run =
    (Ran run.night, (options, subst (λ (a : Asked). IsAsked words a) so by, run.by), run.own_status, run.printed)

-- a text that these arguments ask for
pub text_shown : (words : List Text) (asked : Asked) (text : String Global) (status : ℕ) (was is : Option (List ℕ)) → asked ≡ Show text
    → IsAsked words asked → status ≤ 1 → (status ≡ status_of (Shown text)) ⊎ (status ≡ 5)
    → (status ≢ 5 → Appends was is (text_of (Shown text)))
    → (o : Outcome) × IsOutcome words o × (status ≡ status_of o) × Appends was is (text_of o)
text_shown words asked text status was is so by most (inl own) printed =
    (Shown text, subst (λ (a : Asked). IsAsked words a) so by, own, printed (λ five. omega (arith, five, most)))
text_shown words asked text status was is so by most (inr five) printed = absurd (omega (arith, five, most))

-- arguments that ask for a text ask for it
pub asked_for : (words : List Text) (asked : Asked) (text : String Global) → asked ≡ Show text → IsAsked words asked
    → AsksForText hub_app words
asked_for words asked text so by = subst (λ (a : Asked). IsAsked words a) so by
