-- What is known of arguments that were read as a program's values.
use Rattle.std.proofs.Common.{◌≡◌, List, subst}
use Rattle.clap.specs.Words.{App, HasMatchesOf, Text}
use Rattle.clap.specs.declared.parser.matches.ArgMatches.{ArgMatches}
use Rattle.program_frame.specs.Matching.{IsMatched}
use Rattle.program_frame.specs.declared.matching.Matched.{Matched}
use Rattle.program_frame.specs.declared.matching.Matched.TheVariants as matched

-- the values are those that the arguments give the program
pub values_matched : (app known : App) (words : List Text) (m : Matched) (values : ArgMatches) → app ≡ known → m ≡ matched.Values values
    → IsMatched app words m → HasMatchesOf known words values
values_matched app known words m values same is by =
    subst (λ (a : App). HasMatchesOf a words values) same (subst (IsMatched app words) is by)
