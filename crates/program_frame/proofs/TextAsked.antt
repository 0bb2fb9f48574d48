-- A text that clap reports is one that the arguments ask for.
use Rattle.std.proofs.Common.{◌≡◌, List, true}
use Rattle.clap.specs.Words.{App, HasKind, Text, fault_of, kind_of, takes}
use Rattle.clap.specs.declared.error.Error.{Error}
use Rattle.clap.specs.declared.error.kind.ErrorKind.TheVariants.{OutOfMemory}
use Rattle.system_io.proofs.ForAbove.{asks_for_text}
use Rattle.program_frame.specs.Matching.{IsMatched, IsTextBy}
use Rattle.program_frame.specs.declared.matching.Matched.{Matched}
use Rattle.program_frame.specs.declared.matching.Matched.TheVariants as matched

pub text_matched : (app : App) (words : List Text) (e : Error) (m : Matched) → HasKind (fault_of app words) e
    → (takes app words ≡ true → kind_of e ≡ OutOfMemory) → IsTextBy (kind_of e) m → IsMatched app words m
text_matched app words e (matched.Values values) kind passes is = absurd is
text_matched app words e (matched.Text text) kind passes is =
    let both = asks_for_text app words e kind passes is in record { asked = both.0; no_run = both.1 }
