-- What the arguments ask for, and what a run by them has done.
use Rattle.std.proofs.Common.{◌≡◌, ◌≢◌, ◌≤◌, ◌⊎◌, inl, inr, List, ℕ, Option, String, arith, subst}
use Rattle.std.specs.declared.alloc.Global.{Global}
use Rattle.std.specs.Io.KnownBytes.{Appends}
use Rattle.clap.specs.Words.{Text}
use Rattle.program_frame.specs.Arguments.{value_in, values_in}
use Rattle.program_frame.specs.Matching.{AsksForText}
use Rattle.track_command.specs.CommandLine.{AreOptions, IsAsked, NamesNight, track_app}
use Rattle.track_command.specs.Outcome.{IsOutcome, Shown}
use Rattle.track_command.specs.declared.command.Asked.{Asked}
use Rattle.track_command.specs.declared.command.Asked.TheVariants.{Run, Show}
use Rattle.track_command.specs.declared.command.Options.{Options}

pub options_named : (words : List Text) (asked : Asked) (options : Options) → asked ≡ Run options → IsAsked words asked
    → AreOptions (value_in track_app words) (values_in track_app words) options
options_named words asked options is by = subst (λ (a : Asked). IsAsked words a) is by

-- arguments by which a night is tracked name it
pub names : (words : List Text) (asked : Asked) (options : Options) → asked ≡ Run options → IsAsked words asked → NamesNight words
names words asked options is by = record { options = options; named = options_named words asked options is by }

-- a text that they ask for
pub asked_for : (words : List Text) (asked : Asked) (text : String Global) → asked ≡ Show text → IsAsked words asked
    → AsksForText track_app words
asked_for words asked text is by = subst (λ (a : Asked). IsAsked words a) is by

pub text_shown : (words : List Text) (asked : Asked) (text : String Global) (printed : List ℕ) (status : ℕ) (was is : Option (List ℕ))
    → asked ≡ Show text → IsAsked words asked → status ≤ 1 → (status ≡ 0) ⊎ (status ≡ 5)
    → (status ≢ 5 → Appends was is printed) → IsOutcome words status was is
text_shown words asked text printed status was is so by most (inl zero) told =
    Shown (asked_for words asked text so by) printed (told (λ five. omega (arith, five, zero))) zero
text_shown words asked text printed status was is so by most (inr five) told = absurd (omega (arith, five, most))
