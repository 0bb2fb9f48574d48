-- What a program's arguments are (own), by clap's definitions.
use Rattle.std.specs.Prelude.{◌≡◌, ◌⊎◌, List, true}
use Rattle.clap.specs.Words.{App, HasMatchesOf, IsAmong, Text, fault_of, takes}
use Rattle.clap.specs.declared.error.kind.ErrorKind.{ErrorKind}
use Rattle.clap.specs.declared.error.kind.ErrorKind.TheVariants.{DisplayHelp, DisplayVersion}
use Rattle.program_frame.specs.declared.matching.Matched.{Matched}
use Rattle.program_frame.specs.declared.matching.Matched.TheVariants as matched

-- the arguments ask for help or for the version, and for nothing else
pub record AsksForText (app : App) (words : List Text) : Type 0 where
  pub asked : IsAmong DisplayHelp (fault_of app words) ⊎ IsAmong DisplayVersion (fault_of app words)
  pub no_run : takes app words ≡ true → ⊥

-- the values are those that the arguments give, or a text is asked for
abbrev pub IsMatched : App → List Text → Matched → Type 0
IsMatched app words (matched.Values values) = HasMatchesOf app words values
IsMatched app words (matched.Text text) = AsksForText app words

-- private: a text is asked for, by the kind of what clap reports
abbrev pub IsTextBy : ErrorKind → Matched → Type 0
IsTextBy kind (matched.Values values) = ⊥
IsTextBy kind (matched.Text text) = (kind ≡ DisplayHelp) ⊎ (kind ≡ DisplayVersion)
