-- A night that the arguments ask for can be shared as they say.
use Rattle.std.proofs.Common.{◌≡◌, ◌≤◌, ◌&&◌, ℕ, Bool, true, false, Option, Some, None, if◌then◌else◌, refl, arith}
use Rattle.std.proofs.Common.{rules, tests}
use Rattle.std.specs.Prelude.{nat_le}
use Rattle.hub_kinds.specs.Words.{number_of}
use Rattle.clap.specs.Words.{Text}
use Rattle.night_command.specs.CommandLine.{number_given, up_to_most}

within_by : (most k n : ℕ) (a b : Bool) → nat_le 1 k ≡ a → nat_le k most ≡ b
    → (if a && b then Some k else None) ≡ Some n → (1 ≤ n) × (n ≤ most)
within_by most k n true true least fits is =
    let same : k ≡ n = cc in
    let one : 1 ≤ k = search (rules, tests) in
    let last : k ≤ most = search (rules, tests) in
    (omega (arith, one, same), omega (arith, last, same))
within_by most k n true false least fits is = cc
within_by most k n false b least fits is = cc

within_most : (most n : ℕ) (number : Option ℕ) → up_to_most most number ≡ Some n → (1 ≤ n) × (n ≤ most)
within_most most n None is = cc
within_most most n (Some k) is = within_by most k n (nat_le 1 k) (nat_le k most) refl refl is

pub given_within : (otherwise most n : ℕ) (text : Option Text) → 1 ≤ otherwise → otherwise ≤ most
    → number_given otherwise most text ≡ Some n → (1 ≤ n) × (n ≤ most)
given_within otherwise most n None least fits is =
    let same : otherwise ≡ n = cc in
    (omega (arith, least, same), omega (arith, fits, same))
given_within otherwise most n (Some text) least fits is = within_most most n (number_of 10 text) is
