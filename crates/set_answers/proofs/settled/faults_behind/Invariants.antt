use Rattle.std.proofs.Common.{◌≡◌, ◌++◌, ℕ, List, drop, take}
use Rattle.std.specs.Cmp.Lexicographic.{slice_cmp}
use Rattle.std.specs.Ordering.{nat_cmp}
use Rattle.number_register.specs.SeenNumbers.{HaveSeen}
use Rattle.partner_setup.specs.Setup.{SetupValue}
use Rattle.set_answers.specs.Known.{Knows}
use Rattle.set_answers.specs.Settled.{faults_alone, faults_with, kept_keys}
use Rattle.set_answers.proofs.settled.faults_behind.Given as goal

-- the faults so far, with those of the interchanges that are left, are all; the text's own numbers so far are known
abbrev pub invariant-loop-i : goal.invariant-loop-i
invariant-loop-i l =
    (setup : SetupValue) → l.alone ≡ faults_alone setup l.entries
    → ((before : List (List ℕ)) → HaveSeen l.seen before
    → l.faults.items ++ faults_with setup (before ++ kept_keys setup (take l.i l.entries)) (drop l.i l.entries)
    ≡ faults_with setup before l.entries)
    × Knows (slice_cmp nat_cmp) l.own (kept_keys setup (take l.i l.entries))
